-- What the rules add nothing to, and where nothing clashes, closes to its own normal form.
use Rattle.std.proofs.Common.{◌≡◌, None, sym, ap, ◌∙◌}
use Rattle.std.specs.Option.{option_map_or}
use Rattle.pks_terms.specs.Sets.{IsOrdered}
use Rattle.pks_terms.specs.Orders.{literal_cmp}
use Rattle.pks_terms.specs.Totality.{literal_cmp_total}
use Rattle.pks_terms.specs.Signatures.{Signature}
use Rattle.pks_terms.specs.Databases.{Five}
use Rattle.pks_terms.specs.Closure.{additions, round, tidied, first_clash, Closes, Next, Clash}
use Rattle.pks_terms.specs.Saturated.{IsSaturated}
use Rattle.pks_terms.proofs.OrderLaws.{literal_cmp_tells}
use Rattle.pks_terms.proofs.SetLaws.{added-nothing_new}

pub closes_still : (s : Signature) (d e : Five) → IsOrdered literal_cmp d.kf → IsSaturated s d → first_clash s d ≡ None → e ≡ tidied d → Closes s d (Next e)
unfolding round
closes_still s d e ordered saturated fine same = record {
  count = 0;
  last = ap (λ ls. record d { kf = ls }) (added-nothing_new literal_cmp_total literal_cmp_tells d.kf (additions s d) ordered saturated);
  gives = ap Next same ∙ sym (ap (λ o. option_map_or Clash o (Next (tidied d))) fine);
}
