use Rattle.std.proofs.Common.{◌∙◌, ap}
use Rattle.pks_terms.specs.Sets.{added}
use Rattle.pks_terms.specs.Orders.{literal_cmp}
use Rattle.pks_terms.specs.Views.{literal_of}
use Rattle.pks_kf.specs.Known.{literals_of}
use Rattle.pks_terms.proofs.SetLaws.{map-added}
use Rattle.pks_query_closing.proofs.rounds.known_after.Goals as goal

pub returns : goal.returns
returns c =
    let more = c.in_ok-more.more.items in
    ap literals_of c.in_ok-kf.ensures ∙ map-added literal_of literal_cmp c.five.result.now.kf more ∙ ap (λ five. added literal_cmp (literals_of five.kf) (literals_of more)) c.five.ensures ∙ c.in_ok-more.ensures.round
