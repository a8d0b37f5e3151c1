use Rattle.std.proofs.Common.{◌∙◌, ap}
use Rattle.pks_terms.specs.Sets.{insert_in}
use Rattle.pks_terms.specs.Orders.{literal_cmp}
use Rattle.pks_terms.specs.Views.{literal_of}
use Rattle.pks_terms.proofs.SetLaws.{map-insert_in}
use Rattle.pks_kf.specs.Known.{literals_of}
use Rattle.pks_query_lookup.specs.declared.five.Five.{Five as DFive}
use Rattle.pks_query_lookup.specs.Fives.{five_of}
use Rattle.pks_query_lookup.proofs.derived.Derived.five_with.Goals as goal

pub returns : goal.returns
returns c =
    let l = c.args.l.now in
    c.in_ok-next.ensures.five
    ∙ ap (λ ls. record (five_of c.five-five.result.now) { kf = ls }) (ap literals_of c.in_ok-kf.ensures ∙ map-insert_in literal_of literal_cmp l c.five-five.result.now.kf)
    ∙ ap (λ (d : DFive). record (five_of d) { kf = insert_in literal_cmp (literal_of l) (literals_of d.kf) }) c.five-five.ensures
