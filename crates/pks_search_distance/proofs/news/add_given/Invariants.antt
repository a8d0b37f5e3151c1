use Rattle.std.proofs.Common.{◌≡◌, ◌++◌, map, take}
use Rattle.pks_terms.specs.Views.{object_of, term_of}
use Rattle.pks_search_distance.specs.Relaxed.{NewValue}
use Rattle.pks_search_distance.specs.Gained.{new_of}
use Rattle.pks_search_distance.proofs.news.add_given.Given as goal

abbrev pub invariant-loop-d : goal.invariant-loop-d
invariant-loop-d l = map new_of l.to.items ≡ map new_of l.fn.to.items ++ map (NewValue (term_of l.place)) (map object_of (take l.d-index l.values))
