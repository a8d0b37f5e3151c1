use Rattle.std.proofs.Common.{◌+◌, ◌*◌, ◌++◌, ◌∷◌, [], map, length}
use Rattle.pks_terms.specs.Views.{object_of, terms_of}
use Rattle.pks_world.specs.Contents.{world_of}
use Rattle.pks_search_distance.specs.Relaxed.{tuples, term_values}
use Rattle.pks_world.specs.Few.{few_of}
use Rattle.pks_search_distance.specs.Gained.{chances_of}
use Rattle.pks_search_distance.proofs.Lists.{AddedFrom}
use Rattle.pks_search_distance.proofs.gains.RelaxedFacts.+lists.Given as goal

abbrev pub decreases-add_lists : goal.decreases-add_lists
decreases-add_lists l = 2 * length l.ts.now

abbrev pub decreases-add_each_list : goal.decreases-add_each_list
decreases-add_each_list l = 2 * length l.ts.now + 1

abbrev pub invariant-add_each_list-loop-d : goal.invariant-add_each_list-loop-d
invariant-add_each_list-loop-d l = AddedFrom object_of (λ d. tuples (term_values (chances_of (world_of l.w) l.self)) (few_of l.before ++ d ∷ []) (terms_of l.ts)) l.values (map few_of l.fn.to.items) l.d-index (map few_of l.to.items)
