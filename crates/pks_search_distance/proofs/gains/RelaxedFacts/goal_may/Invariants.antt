use Rattle.std.proofs.Common.{◌≡◌, drop, map}
use Rattle.std.specs.List.{list_all}
use Rattle.pks_terms.specs.Views.{aim_of}
use Rattle.pks_world.specs.Contents.{world_of}
use Rattle.pks_search_distance.specs.Relaxed.{aim_may}
use Rattle.pks_search_distance.specs.Gained.{chances_of}
use Rattle.pks_search_distance.proofs.gains.RelaxedFacts.goal_may.Given as goal

abbrev pub invariant-loop-a : goal.invariant-loop-a
invariant-loop-a l = list_all (aim_may (chances_of (world_of l.w) l.self)) (map aim_of (drop l.a-index l.aims)) ≡ list_all (aim_may (chances_of (world_of l.w) l.self)) (map aim_of l.aims)
