use Rattle.std.proofs.Common.{◌∙◌, ap, sym}
use Rattle.pks_terms.specs.Orders.{conj_cmp}
use Rattle.pks_terms.specs.Views.{conj_of}
use Rattle.pks_kw.specs.Formulas.{formulas_of}
use Rattle.pks_terms.proofs.SetLaws.{map-set_of}
use Rattle.pks_terms.specs.Totality.{conj_cmp_total}
use Rattle.pks_kf.specs.Known.{literals_of}
use Rattle.pks_query_lookup.specs.declared.five.Five.{Five as DFive}
use Rattle.pks_query_closing.proofs.OwnSets.{set_stays, own_formulas}
use Rattle.pks_query_closing.proofs.tidied.formulas.Goals as goal

pub returns-then-are_own_formulas : goal.returns-then-are_own_formulas
returns-then-are_own_formulas c =
    let own = own_formulas (literals_of c.args.d.now.kf) (formulas_of c.args.d.now.kw) (sym c.are_own_formulas.ensures ∙ c.if-are_own_formulas.true) ∙ ap (λ (five : DFive). formulas_of five.kw) (sym c.five.ensures) in
    ap formulas_of c.in_ok-same.ensures ∙ set_stays conj_of conj_cmp conj_cmp_total c.five.result.now.kw c.len-ordered.ensures.ordered _ own

pub returns : goal.returns
returns c =
    map-set_of conj_of conj_cmp _ _ _ c.in_ok-set.ensures c.in_ok-all.ensures
