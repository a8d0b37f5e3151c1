use Rattle.std.specs.Vec.Iter.{into_iter_items}
use Rattle.pks_terms.specs.Sets.{Each}
use Rattle.pks_terms.specs.Problems.{IsCompatible}
use Rattle.pks_terms.specs.Views.{problem_of}
use Rattle.pks_world.specs.Contents.{world_of}
use Rattle.pks_search_distance.specs.Remembered.{AreItsGroundActions}
use Rattle.pks_search.specs.Near.{IsFirst}
use Rattle.pks_search.proofs.nearing.with_bounds.Given as goal

abbrev pub invariant-loop-world : goal.invariant-loop-world
invariant-loop-world l = Each (λ w. IsCompatible (problem_of l.p) (world_of w)) (into_iter_items l.world-iterator) × Each (IsFirst (problem_of l.p)) l.near.items × AreItsGroundActions (problem_of l.p) l.ground_actions
