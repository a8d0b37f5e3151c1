use Rattle.std.proofs.Common.{[], ◌∙◌, ap}
use Rattle.pks_terms.specs.Orders.{literal_cmp}
use Rattle.pks_terms.specs.Views.{literal_of}
use Rattle.pks_terms.proofs.SetLaws.{map-added}
use Rattle.pks_kf.specs.Known.{literals_of}
use Rattle.pks_query_lookup.specs.Fives.{five_of}
use Rattle.pks_query_closing.proofs.carrying.Carrying.with_alone.Goals as goal

pub returns : goal.returns
returns c =
    ap five_of c.in_ok-d.ensures ∙ c.in_ok-five.ensures.five
    ∙ ap (λ ls. record (five_of c.args.self.now.five) { kf = ls })
    (ap literals_of c.in_ok-kf.ensures ∙ map-added literal_of literal_cmp [] c.args.values.items)
