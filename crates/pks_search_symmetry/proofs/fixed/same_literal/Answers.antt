use Rattle.std.proofs.Common.{◌∙◌, sym}
use Rattle.pks_terms.proofs.OrderLaws.{literal_cmp_tells}
use Rattle.pks_search_symmetry.proofs.Texts.{tied_equal}
use Rattle.pks_search_symmetry.proofs.fixed.same_literal.Goals as goal

pub returns : goal.returns
returns c = λ e. tied_equal literal_cmp_tells _ _ (sym c.eq.ensures ∙ e)
