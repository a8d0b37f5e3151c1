-- Databases with more known literals, and their lengths.
use Rattle.std.proofs.Common.{◌≡◌, ◌≤◌, ◌<◌, ◌^◌, List, length, sym, ap, ◌∙◌, subst, arith}
use Rattle.std.specs.Ordering.{on}
use Rattle.std.proofs.lemmas.List.{length-map}
use Rattle.pks_terms.specs.declared.literal.Literal.{Literal as DLiteral}
use Rattle.pks_terms.specs.Sets.{added, IsOrdered}
use Rattle.pks_terms.specs.Orders.{literal_cmp}
use Rattle.pks_terms.specs.Databases.{Five}
use Rattle.pks_terms.specs.Views.{literal_of}
use Rattle.pks_terms.proofs.SetLaws.{map-added, added_longer, added_same}
use Rattle.pks_kf.specs.Known.{literals_of}
use Rattle.pks_pmap_set.proofs.Mapped.{ordered-map}
use Rattle.pks_query_lookup.specs.declared.five.Five.{Five as DFive}
use Rattle.pks_query_lookup.specs.Fives.{five_of}

module _ (five : DFive) (d : Five) (e : five_of five ≡ d) where
  pub known_ordered : IsOrdered (on literal_of literal_cmp) five.kf → IsOrdered literal_cmp d.kf
  known_ordered o = subst (λ (x : Five). IsOrdered literal_cmp x.kf) e (ordered-map literal_of literal_cmp five.kf o)

  own_length : length d.kf ≡ length five.kf
  own_length = sym (ap (λ (x : Five). length x.kf) e) ∙ length-map five.kf literal_of

  module _ (kf news : List DLiteral) (a : kf ≡ added (on literal_of literal_cmp) five.kf news) where
    known_added : literals_of kf ≡ added literal_cmp d.kf (literals_of news)
    known_added = ap literals_of a ∙ map-added literal_of literal_cmp five.kf news ∙ ap (λ (x : Five). added literal_cmp x.kf (literals_of news)) e

    new_length : length (added literal_cmp d.kf (literals_of news)) ≡ length kf
    new_length = sym (ap length known_added) ∙ length-map kf literal_of

    -- as many literals are the same ones
    pub same_added : length kf ≡ length five.kf → d ≡ record d { kf = added literal_cmp d.kf (literals_of news) }
    same_added h = let same = added_same literal_cmp d.kf (literals_of news) (new_length ∙ h ∙ sym own_length) in λ i. record d { kf = sym same i }

    pub five_added : record (five_of five) { kf = literals_of kf } ≡ record d { kf = added literal_cmp d.kf (literals_of news) }
    five_added = λ i. record (e i) { kf = known_added i }

    -- else there are more
    pub longer_added : (f : Five) → f ≡ record d { kf = added literal_cmp d.kf (literals_of news) } → (length kf ≡ length five.kf → ⊥) → length kf < 2 ^ 64 → (length d.kf < length f.kf) × (length f.kf < 2 ^ 64)
    longer_added f g other fits =
        let more : length five.kf ≤ length kf = subst (λ xs. length five.kf ≤ length xs) (sym a) (added_longer (on literal_of literal_cmp) five.kf news) in
        let new : length f.kf ≡ length kf = ap (λ (x : Five). length x.kf) g ∙ new_length in
        let own = own_length in
        let less : length five.kf < length kf = omega (arith, other) in
        (omega arith, omega arith)
