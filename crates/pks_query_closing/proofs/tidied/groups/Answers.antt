use Rattle.std.proofs.Common.{◌∙◌, ap, sym}
use Rattle.pks_terms.specs.Orders.{conj_cmp}
use Rattle.pks_terms.specs.Views.{literals_in}
use Rattle.pks_kx.specs.Groups.{groups_of}
use Rattle.pks_terms.proofs.SetLaws.{map-set_of}
use Rattle.pks_terms.specs.Totality.{conj_cmp_total}
use Rattle.pks_kf.specs.Known.{literals_of}
use Rattle.pks_query_lookup.specs.declared.five.Five.{Five as DFive}
use Rattle.pks_query_closing.proofs.OwnSets.{set_stays, own_groups}
use Rattle.pks_query_closing.proofs.tidied.groups.Goals as goal

pub returns-then-are_own_groups : goal.returns-then-are_own_groups
returns-then-are_own_groups c =
    let own = own_groups (literals_of c.args.d.now.kf) (groups_of c.args.d.now.kx) (sym c.are_own_groups.ensures ∙ c.if-are_own_groups.true) ∙ ap (λ (five : DFive). groups_of five.kx) (sym c.five.ensures) in
    ap groups_of c.in_ok-same.ensures ∙ set_stays literals_in conj_cmp conj_cmp_total c.five.result.now.kx c.len-ordered.ensures.ordered _ own

pub returns : goal.returns
returns c =
    map-set_of literals_in conj_cmp _ _ _ c.in_ok-set.ensures c.in_ok-all.ensures
