-- Closing comes to an end, by whatever signature.
use Rattle.std.proofs.Common.{◌≡◌, ◌⊎◌, ◌+◌, ◌<◌, ◌≤◌, ℕ, zero, suc, List, [], ◌∷◌, length, refl, ap, inl, inr, ⊎_elim, arith}
use Rattle.std.proofs.lemmas.Bool.{cases_lt}
use Rattle.pks_terms.specs.Sets.{Each, IsOrdered, added}
use Rattle.pks_terms.specs.Syntax.{Form, Object, Parameter, Apply, Inner, Term, Relation, Named, Equality, Literal}
use Rattle.pks_terms.specs.Orders.{literal_cmp}
use Rattle.pks_terms.specs.Totality.{literal_cmp_total}
use Rattle.pks_terms.specs.Signatures.{Signature}
use Rattle.pks_terms.specs.Databases.{Five}
use Rattle.pks_terms.specs.Closure.{additions, round, rounds, outcome, Outcome, Closes}
use Rattle.pks_terms.proofs.ListLaws.{each_added, each_weaker}
use Rattle.pks_terms.proofs.OrderLaws.{literal_cmp_tells}
use Rattle.pks_terms.proofs.SetLaws.{added_longer, added_same, ordered_added}
use Rattle.pks_laws_progress.proofs.Small.{FormSmall, InnerSmall, TermSmall, RelationSmall, LiteralSmall, FiveSmall, additions_small}
use Rattle.pks_laws_progress.proofs.Bounded.{most, at_most}

-- ---- each of finitely many things is below some bound

module _ {X : Type 0} (P : ℕ → X → Type 0) (more : (b c : ℕ) → b ≤ c → (x : X) → P b x → P c x) (some : (x : X) → (b : ℕ) × P b x) where
  each_more : (b c : ℕ) → b ≤ c → (xs : List X) → Each (P b) xs → Each (P c) xs
  each_more b c h xs a = each_weaker (P b) (P c) (more b c h) xs a

  each_some : (xs : List X) → (b : ℕ) × Each (P b) xs
  each_some [] = (0, tt)
  each_some (x ∷ xs) =
      let a = some x in
      let r = each_some xs in
      let here : a.0 ≤ a.0 + r.0 = omega arith in
      let there : r.0 ≤ a.0 + r.0 = omega arith in
      (a.0 + r.0, (more a.0 (a.0 + r.0) here x a.1, each_more r.0 (a.0 + r.0) there xs r.1))

module _ {A : Type 0} (P : ℕ → A → Type 0) (more : (b c : ℕ) → b ≤ c → (a : A) → P b a → P c a) (some : (a : A) → (b : ℕ) × P b a) where
  form_more : (b c : ℕ) → b ≤ c → (t : Form A) → FormSmall (P b) b t → FormSmall (P c) c t
  form_more b c h (Object d) k = omega arith
  form_more b c h (Parameter i) k = omega arith
  form_more b c h (Apply f ts) k = let n = k.0 in let m = k.1 in (omega arith, omega arith, each_more P more some b c h ts k.2)

  form_some : (t : Form A) → (b : ℕ) × FormSmall (P b) b t
  form_some (Object d) = (suc d, omega arith)
  form_some (Parameter i) = (suc i, omega arith)
  form_some (Apply f ts) =
      let r = each_some P more some ts in
      let b = suc f + (length ts + r.0) in
      let there : r.0 ≤ suc f + (length ts + r.0) = omega arith in
      (b, (omega arith, omega arith, each_more P more some r.0 b there ts r.1))

number_more : (b c : ℕ) → b ≤ c → (d : ℕ) → d < b → d < c
number_more b c h d k = omega arith

number_some : (d : ℕ) → (b : ℕ) × (d < b)
number_some d = (suc d, omega arith)

inner_more : (b c : ℕ) → b ≤ c → (u : Inner) → InnerSmall b u → InnerSmall c u
inner_more = form_more (λ b d. d < b) number_more number_some

inner_some : (u : Inner) → (b : ℕ) × InnerSmall b u
inner_some = form_some (λ b d. d < b) number_more number_some

term_more : (b c : ℕ) → b ≤ c → (t : Term) → TermSmall b t → TermSmall c t
term_more = form_more InnerSmall inner_more inner_some

term_some : (t : Term) → (b : ℕ) × TermSmall b t
term_some = form_some InnerSmall inner_more inner_some

relation_more : (b c : ℕ) → b ≤ c → (r : Relation) → RelationSmall b r → RelationSmall c r
relation_more b c h (Named p) k = omega arith
relation_more b c h Equality k = tt

relation_some : (r : Relation) → (b : ℕ) × RelationSmall b r
relation_some (Named p) = (suc p, omega arith)
relation_some Equality = (0, tt)

literal_more : (b c : ℕ) → b ≤ c → (l : Literal) → LiteralSmall b l → LiteralSmall c l
literal_more b c h l k = let n = k.1 in (relation_more b c h l.relation k.0, omega arith, each_more TermSmall term_more term_some b c h l.arguments k.2)

literal_some : (l : Literal) → (b : ℕ) × LiteralSmall b l
literal_some l =
    let r = relation_some l.relation in
    let ts = each_some TermSmall term_more term_some l.arguments in
    let b = r.0 + (length l.arguments + ts.0) in
    let here : r.0 ≤ r.0 + (length l.arguments + ts.0) = omega arith in
    let there : ts.0 ≤ r.0 + (length l.arguments + ts.0) = omega arith in
    (b, (relation_more r.0 b here l.relation r.1, omega arith, each_more TermSmall term_more term_some ts.0 b there l.arguments ts.1))

literals_more : (b c : ℕ) → b ≤ c → (ls : List Literal) → Each (LiteralSmall b) ls → Each (LiteralSmall c) ls
literals_more = each_more LiteralSmall literal_more literal_some

literals_some : (ls : List Literal) → (b : ℕ) × Each (LiteralSmall b) ls
literals_some = each_some LiteralSmall literal_more literal_some

groups_more : (b c : ℕ) → b ≤ c → (gs : List (List Literal)) → Each (Each (LiteralSmall b)) gs → Each (Each (LiteralSmall c)) gs
groups_more = each_more (λ b. Each (LiteralSmall b)) literals_more literals_some

groups_some : (gs : List (List Literal)) → (b : ℕ) × Each (Each (LiteralSmall b)) gs
groups_some = each_some (λ b. Each (LiteralSmall b)) literals_more literals_some

-- ---- rounds

module _ (s : Signature) (d : Five) (ordered : IsOrdered literal_cmp d.kf) where
  all_ordered : (n : ℕ) → IsOrdered literal_cmp (rounds s n d).kf
  unfolding round
  all_ordered zero = ordered
  all_ordered (suc n) = ordered_added literal_cmp_total literal_cmp_tells (rounds s n d).kf (additions s (rounds s n d)) (all_ordered n)

  longer_or_last : (e : Five) → (length e.kf < length (round s e).kf) ⊎ (round s e ≡ e)
  unfolding round
  longer_or_last e =
      let more : length e.kf ≤ length (added literal_cmp e.kf (additions s e)) = added_longer literal_cmp e.kf (additions s e) in
      ⊎_elim (λ lt. inl lt)
      (λ ge. let same : length (added literal_cmp e.kf (additions s e)) ≡ length e.kf = omega arith in inr (ap (λ ls. record e { kf = ls }) (added_same literal_cmp e.kf (additions s e) same)))
      (cases_lt (length e.kf) (length (added literal_cmp e.kf (additions s e))))

  last_below : (bound k m : ℕ) → ((n : ℕ) → length (rounds s n d).kf ≤ bound) → bound < k + length (rounds s m d).kf → (j : ℕ) × (round s (rounds s j d) ≡ rounds s j d)
  last_below bound zero m below h = let b = below m in absurd (omega arith)
  last_below bound (suc k) m below h =
      ⊎_elim (λ longer. last_below bound k (suc m) below (omega arith)) (λ last. (m, last)) (longer_or_last (rounds s m d))

  module _ (b : ℕ) (two : 2 ≤ b) (objects : length s.objects ≤ b) (small : FiveSmall b d) where
    all_small : (n : ℕ) → FiveSmall b (rounds s n d)
    unfolding round
    all_small zero = small
    all_small (suc n) =
        let e = rounds s n d in
        let h = all_small n in
        (each_added (LiteralSmall b) literal_cmp e.kf (additions s e) h.0 (additions_small b two s e objects h), h.1)

    ends_below : (n : ℕ) × (round s (rounds s n d) ≡ rounds s n d)
    ends_below = last_below (most b) (suc (most b)) zero (λ n. at_most b (rounds s n d).kf (all_ordered n) (all_small n).0) (omega arith)

  pub rounds_end : (n : ℕ) × (round s (rounds s n d) ≡ rounds s n d)
  rounds_end =
      let k = literals_some d.kf in
      let g = groups_some d.kx in
      let b = 2 + (length s.objects + (k.0 + g.0)) in
      let known : k.0 ≤ 2 + (length s.objects + (k.0 + g.0)) = omega arith in
      let grouped : g.0 ≤ 2 + (length s.objects + (k.0 + g.0)) = omega arith in
      ends_below b (omega arith) (omega arith) (literals_more k.0 b known d.kf k.1, groups_more g.0 b grouped d.kx g.1)

  pub closing_ends : (o : Outcome) × Closes s d o
  closing_ends = let e = rounds_end in (outcome s (rounds s e.0 d), record { count = e.0; last = e.1; gives = refl })
