-- Rounds until one changes nothing.
use Rattle.std.proofs.Common.{◌≡◌, ◌≤◌, List, length, None, Some, refl, sym, ap, ◌∙◌, subst}
use Rattle.std.proofs.lemmas.List.{length-map}
use Rattle.pks_terms.specs.declared.literal.Literal.{Literal as DLiteral}
use Rattle.pks_terms.specs.Syntax.{Literal}
use Rattle.pks_terms.specs.Orders.{literal_cmp}
use Rattle.pks_terms.specs.Signatures.{Signature}
use Rattle.pks_terms.specs.Databases.{Five}
use Rattle.pks_terms.specs.Closure.{additions, round, outcome, tidied, first_clash, Closes, Outcome, Next, Clash}
use Rattle.pks_terms.proofs.SetLaws.{added_longer, added_same}
use Rattle.pks_kf.specs.Known.{literals_of}
use Rattle.pks_query_lookup.specs.declared.five.Five.{Five as DFive}
use Rattle.pks_query_lookup.specs.Fives.{five_of}
use Rattle.pks_query_closing.specs.Rounds.{IsLastRound}

module _ (s : Signature) (d : DFive) (kf : List DLiteral) (e : literals_of kf ≡ (round s (five_of d)).kf) where
  pub next_longer : length d.kf ≤ length kf
  unfolding round
  next_longer =
      let a = added_longer literal_cmp (literals_of d.kf) (additions s (five_of d)) in
      let b : length (literals_of d.kf) ≤ length (literals_of kf) = subst (λ ls. length (literals_of d.kf) ≤ length ls) (sym e) a in
      simp length-map at b

  pub next_same : length kf ≡ length d.kf → round s (five_of d) ≡ five_of d
  unfolding round
  next_same h =
      let l : length (literals_of kf) ≡ length (literals_of d.kf) = simp length-map h in
      let same = added_same literal_cmp (literals_of d.kf) (additions s (five_of d)) (sym (ap length e) ∙ l) in
      ap (λ ls. record (five_of d) { kf = ls }) same

pub next_five : (s : Signature) (five d : DFive) (kf : List DLiteral) → five ≡ d → literals_of kf ≡ (round s (five_of d)).kf → record (five_of five) { kf = literals_of kf } ≡ round s (five_of d)
unfolding round
next_five s five d kf same e = λ i. record (five_of (same i)) { kf = e i }

-- the outcome at the last round
pub closes : (s : Signature) (d e : Five) → IsLastRound s d e → (o : Outcome) → o ≡ outcome s e → Closes s d o
closes s d e r o h = record {
  count = r.count;
  last = ap (round s) (sym r.reached) ∙ r.last ∙ r.reached;
  gives = h ∙ ap (outcome s) r.reached;
}

pub closes_next : (s : Signature) (d e f : Five) → IsLastRound s d e → first_clash s e ≡ None → f ≡ tidied e → Closes s d (Next f)
closes_next s d e f r n t = closes s d e r (Next f) (ap Next t ∙ rw n refl)

pub closes_clash : (s : Signature) (d e : Five) (l : Literal) → IsLastRound s d e → first_clash s e ≡ Some l → Closes s d (Clash l)
closes_clash s d e l r n = closes s d e r (Clash l) (rw n refl)
