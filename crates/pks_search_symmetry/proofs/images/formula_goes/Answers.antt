use Rattle.std.proofs.Common.{◌∙◌, ap}
use Rattle.pks_terms.specs.Orders.{conj_cmp}
use Rattle.pks_kw.specs.Formulas.{formulas_of}
use Rattle.pks_search_symmetry.specs.Going.{is_one_of}
use Rattle.pks_search_symmetry.proofs.Going.{is_formula_among}
use Rattle.pks_search_symmetry.proofs.images.formula_goes.Goals as goal

pub returns : goal.returns
returns c =
    c.has.ensures ∙ is_formula_among c.conj.result c.args.e.now.kw ∙ ap (λ x. is_one_of conj_cmp x (formulas_of c.args.e.now.kw)) c.conj.ensures
