use Rattle.std.proofs.Common.{◌≡◌, drop}
use Rattle.std.specs.List.{list_all}
use Rattle.pks_terms.specs.Views.{literals_in}
use Rattle.pks_world.specs.Contents.{world_of}
use Rattle.pks_search_distance.specs.Relaxed.{may}
use Rattle.pks_search_distance.specs.Gained.{chances_of}
use Rattle.pks_search_distance.proofs.gains.RelaxedFacts.all_may.Given as goal

abbrev pub invariant-loop-l : goal.invariant-loop-l
invariant-loop-l l = list_all (may (chances_of (world_of l.w) l.self)) (literals_in (drop l.l-index l.literals)) ≡ list_all (may (chances_of (world_of l.w) l.self)) (literals_in l.literals)
