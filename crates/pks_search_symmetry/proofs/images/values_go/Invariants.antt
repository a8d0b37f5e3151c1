use Rattle.std.proofs.Common.{◌≡◌}
use Rattle.std.specs.List.{list_all}
use Rattle.pks_terms.specs.Views.{terms_of}
use Rattle.pks_query_lookup.specs.Fives.{five_of}
use Rattle.pks_search_symmetry.specs.Renaming.{image_by}
use Rattle.pks_search_symmetry.specs.Going.{value_goes}
use Rattle.pks_search_symmetry.proofs.images.values_go.Given as goal

abbrev pub invariant-loop-t : goal.invariant-loop-t
invariant-loop-t l =
    list_all (value_goes (image_by l.to) (five_of l.e)) (terms_of l.t-iterator)
    ≡ list_all (value_goes (image_by l.to) (five_of l.e)) (terms_of l.d.kv)
