use Rattle.std.proofs.Common.{◌≡◌, ◌==◌, map, drop}
use Rattle.std.specs.List.{list_any}
use Rattle.pks_terms.specs.Worlds.{signed}
use Rattle.pks_terms.specs.Views.{object_of}
use Rattle.pks_search_distance.proofs.may.some_equal.Given as goal

abbrev pub invariant-loop-e : goal.invariant-loop-e
invariant-loop-e l =
    list_any (λ e. signed l.positive (l.d.0 == e)) (map object_of (drop l.e-index l.others))
    ≡ list_any (λ e. signed l.positive (l.d.0 == e)) (map object_of l.others)
