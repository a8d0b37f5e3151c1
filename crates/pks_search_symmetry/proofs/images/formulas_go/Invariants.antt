use Rattle.std.proofs.Common.{◌≡◌}
use Rattle.std.specs.List.{list_all}
use Rattle.pks_kw.specs.Formulas.{formulas_of}
use Rattle.pks_query_lookup.specs.Fives.{five_of}
use Rattle.pks_search_symmetry.specs.Renaming.{image_by}
use Rattle.pks_search_symmetry.specs.Going.{formula_goes}
use Rattle.pks_search_symmetry.proofs.images.formulas_go.Given as goal

abbrev pub invariant-loop-c : goal.invariant-loop-c
invariant-loop-c l =
    list_all (formula_goes (image_by l.to) (five_of l.e)) (formulas_of l.c-iterator)
    ≡ list_all (formula_goes (image_by l.to) (five_of l.e)) (formulas_of l.d.kw)
