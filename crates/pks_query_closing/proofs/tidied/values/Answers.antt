use Rattle.std.proofs.Common.{◌∙◌, ap, sym}
use Rattle.pks_terms.specs.Orders.{term_cmp}
use Rattle.pks_terms.specs.Views.{term_of, terms_of}
use Rattle.pks_terms.proofs.SetLaws.{map-set_of}
use Rattle.pks_terms.specs.Totality.{term_cmp_total}
use Rattle.pks_kf.specs.Known.{literals_of}
use Rattle.pks_query_lookup.specs.declared.five.Five.{Five as DFive}
use Rattle.pks_query_closing.proofs.OwnSets.{set_stays, own_values}
use Rattle.pks_query_closing.proofs.tidied.values.Goals as goal

pub returns-then-are_own_values : goal.returns-then-are_own_values
returns-then-are_own_values c =
    let own = own_values (literals_of c.args.d.now.kf) (terms_of c.args.d.now.kv) (sym c.are_own_values.ensures ∙ c.if-are_own_values.true) ∙ ap (λ (five : DFive). terms_of five.kv) (sym c.five.ensures) in
    ap terms_of c.in_ok-same.ensures ∙ set_stays term_of term_cmp term_cmp_total c.five.result.now.kv c.len-ordered.ensures.ordered _ own

pub returns : goal.returns
returns c =
    map-set_of term_of term_cmp _ _ _ c.in_ok-set.ensures c.in_ok-all.ensures
