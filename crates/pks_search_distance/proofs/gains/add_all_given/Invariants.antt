use Rattle.std.proofs.Common.{map}
use Rattle.pks_terms.specs.Views.{object_of, term_of}
use Rattle.pks_search_distance.specs.Gained.{given_of, given_to}
use Rattle.pks_search_distance.proofs.Lists.{AddedFrom}
use Rattle.pks_search_distance.proofs.gains.add_all_given.Given as goal

abbrev pub invariant-loop-x : goal.invariant-loop-x
invariant-loop-x l = AddedFrom given_of (given_to (term_of l.place)) l.xs (map object_of l.fn.to.items) l.x-index (map object_of l.to.items)
