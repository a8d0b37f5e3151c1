use Rattle.pks_terms.specs.Views.{problem_of}
use Rattle.pks_world.specs.Contents.{world_of}
use Rattle.pks_search_distance.specs.Gained.{chances_of}
use Rattle.pks_search_distance.proofs.Bounded.{Covers, AtLeast}
use Rattle.pks_search_distance.proofs.ground_actions.GroundActions.needs.Given as goal

abbrev pub invariant-loop-k : goal.invariant-loop-k
invariant-loop-k l = record {
  covers : Covers (problem_of l.p) l.self (world_of l.w) (chances_of (world_of l.w) l.gains) l.k;
  least : AtLeast (problem_of l.p) l.self (world_of l.w) l.k;
}
