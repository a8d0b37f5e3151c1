use Rattle.std.proofs.Common.{◌≡◌, ◌==◌, map, drop}
use Rattle.std.specs.List.{list_any}
use Rattle.pks_terms.specs.Worlds.{signed}
use Rattle.pks_terms.specs.Views.{object_of}
use Rattle.pks_search_distance.proofs.may.some_of_equal.Given as goal

abbrev pub invariant-loop-d : goal.invariant-loop-d
invariant-loop-d l =
    list_any (λ d. list_any (λ e. signed l.positive (d == e)) (map object_of l.rights)) (map object_of (drop l.d-index l.lefts))
    ≡ list_any (λ d. list_any (λ e. signed l.positive (d == e)) (map object_of l.rights)) (map object_of l.lefts)
