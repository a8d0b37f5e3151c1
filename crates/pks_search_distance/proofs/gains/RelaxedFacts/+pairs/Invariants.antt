use Rattle.std.proofs.Common.{◌+◌, ◌*◌, ◌++◌, ◌∷◌, [], map, length}
use Rattle.pks_terms.specs.Views.{object_of, inner_of}
use Rattle.pks_world.specs.Contents.{world_of}
use Rattle.pks_search_distance.specs.Relaxed.{tuples, inner_values}
use Rattle.pks_search_distance.specs.Gained.{pair_of, chances_of}
use Rattle.pks_search_distance.proofs.Lists.{AddedFrom}
use Rattle.pks_search_distance.proofs.gains.RelaxedFacts.+pairs.Given as goal

abbrev pub decreases-add_pairs : goal.decreases-add_pairs
decreases-add_pairs l = 2 * length l.ts.now

abbrev pub decreases-add_each_pair : goal.decreases-add_each_pair
decreases-add_each_pair l = 2 * length l.ts.now + 1

abbrev pub invariant-add_each_pair-loop-d : goal.invariant-add_each_pair-loop-d
invariant-add_each_pair-loop-d l = AddedFrom object_of (λ d. tuples (inner_values (chances_of (world_of l.w) l.self)) (pair_of l.before ++ d ∷ []) (map inner_of l.ts)) l.values (map pair_of l.fn.to.items) l.d-index (map pair_of l.to.items)
