use Rattle.std.proofs.Common.{ap, ◌∙◌, map}
use Rattle.pks_terms.specs.Orders.{literal_cmp}
use Rattle.pks_terms.specs.Branching.{CasesOn, Is, assumed}
use Rattle.pks_terms.specs.Sets.{insert_in}
use Rattle.pks_terms.specs.Views.{literal_of, term_of, signature_of}
use Rattle.pks_terms.proofs.SetLaws.{map-insert_in}
use Rattle.pks_kf.specs.Known.{literals_of}
use Rattle.pks_query_lookup.specs.Fives.{five_of}
use Rattle.pks_branch.proofs.assuming.with_value.Goals as goal

pub returns : goal.returns
unfolding assumed
returns c =
    let five = c.parts-five.result.now in
    let known = ap (map literal_of) c.in_ok-kf.ensures ∙ map-insert_in literal_of literal_cmp c.equation.result five.kf ∙ ap (λ l. insert_in literal_cmp l (literals_of five.kf)) c.equation.ensures.says in
    let beside = c.in_ok-kw.ensures in
    (λ i. record { kf = known i; kw = beside.formulas i; kv = c.in_ok-kv.ensures i; kx = beside.groups i; lcw = beside.regions i })
    ∙ ap (λ d. assumed (signature_of c.args.s.now) (five_of d) (CasesOn (term_of c.args.t.now)) (Is c.args.e.0)) c.parts-five.ensures.lent
