use Rattle.std.proofs.Common.{◌≡◌, ◌==◌, map, drop, flat_map}
use Rattle.std.specs.List.{list_any}
use Rattle.pks_terms.specs.Views.{term_of}
use Rattle.pks_search_distance.specs.Gained.{given_of, given_to}
use Rattle.pks_search_distance.proofs.taking.some_gives.Given as goal

abbrev pub invariant-loop-x : goal.invariant-loop-x
invariant-loop-x l =
    list_any (λ e. e == l.d.0) (flat_map (given_to (term_of l.place)) (map given_of (drop l.x-index l.xs)))
    ≡ list_any (λ e. e == l.d.0) (flat_map (given_to (term_of l.place)) (map given_of l.xs))
