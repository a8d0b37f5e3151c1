use Rattle.std.proofs.Common.{◌∙◌, sym}
use Rattle.pks_terms.proofs.OrderLaws.{conj_cmp_tells}
use Rattle.pks_search_symmetry.proofs.Texts.{tied_equal}
use Rattle.pks_search_symmetry.proofs.fixed.same_conj.Goals as goal

pub returns : goal.returns
returns c = λ e. tied_equal conj_cmp_tells _ _ (sym c.eq.ensures ∙ e)
