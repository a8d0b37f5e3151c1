use Rattle.std.proofs.Common.{◌≡◌, drop}
use Rattle.pks_terms.specs.Views.{literals_in}
use Rattle.pks_world.specs.Contents.{world_of}
use Rattle.pks_search_distance.specs.Landmarks.{is_met}
use Rattle.pks_search_distance.proofs.landmarks.is_met.Given as goal

abbrev pub invariant-loop-l : goal.invariant-loop-l
invariant-loop-l l = is_met (world_of l.w) (literals_in (drop l.l-index l.literals)) ≡ is_met (world_of l.w) (literals_in l.literals)
