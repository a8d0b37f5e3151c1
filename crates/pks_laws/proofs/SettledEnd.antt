-- The end of settling has the start, and is closed under the rules.
use Rattle.std.proofs.Common.{◌≡◌, ◌||◌, ℕ, zero, suc, true, false, is_some, List, [], ◌∷◌, ◌++◌, Some, None, refl, ap, ◌∙◌, subst, inl, inr, true≢false}
use Rattle.std.specs.List.{list_any}
use Rattle.std.proofs.lemmas.Bool.{or_parts}
use Rattle.pks_terms.specs.Sets.{IsIn}
use Rattle.pks_terms.specs.Syntax.{Literal}
use Rattle.pks_terms.specs.Signatures.{Signature}
use Rattle.pks_terms.specs.Databases.{Five}
use Rattle.pks_terms.specs.Totality.{literal_cmp_total}
use Rattle.pks_terms.specs.Closure.{additions, first_clash}
use Rattle.pks_terms.specs.Actions.{Instance}
use Rattle.pks_terms.specs.Problems.{Problem}
use Rattle.pks_terms.specs.Settling.{History, forward, grown, from_next, settled_steps, settle_round, settle_rounds, clashes}
use Rattle.pks_terms.specs.Saturated.{Within, IsSaturated, WithinAlong, ClosedAlong}
use Rattle.pks_terms.proofs.OrderLaws.{literal_cmp_tells}
use Rattle.pks_terms.proofs.SetLaws.{added_in}
use Rattle.pks_laws.proofs.Least.{in_left, in_right}

module _ (s : Signature) (d : Five) (news : List Literal) where
  grown_has : Within d.kf (grown s d news).kf
  grown_has = λ l i. added_in literal_cmp_total literal_cmp_tells d.kf (additions s d ++ news) l (inl i)

  -- what databases that a round leaves as they are have
  module _ (same : grown s d news ≡ d) where
    all_in : Within (additions s d ++ news) d.kf
    all_in = λ l i. subst (IsIn l) (ap (λ (x : Five). x.kf) same) (added_in literal_cmp_total literal_cmp_tells d.kf (additions s d ++ news) l (inr i))

    additions_in : IsSaturated s d
    additions_in = λ l i. all_in l (in_left (additions s d) news l i)

    news_in : Within news d.kf
    news_in = λ l i. all_in l (in_right (additions s d) news l i)

-- ---- families that lie within one another

along_itself : (d : Five) (xs : List (Instance × Five)) → WithinAlong d xs d xs
along_itself d [] = (λ l i. i, refl, refl)
along_itself d (x ∷ xs) = ((λ l i. i, refl, refl), refl, along_itself x.1 xs)

along_both : (d : Five) (xs : List (Instance × Five)) (e : Five) (ys : List (Instance × Five)) (f : Five) (zs : List (Instance × Five)) → WithinAlong d xs e ys → WithinAlong e ys f zs → WithinAlong d xs f zs
along_both d [] e [] f [] a b = (λ l i. b.0 l (a.0 l i), a.1 ∙ b.1, a.2 ∙ b.2)
along_both d (x ∷ xs) e (y ∷ ys) f (z ∷ zs) a b = ((λ l i. b.0.0 l (a.0.0 l i), a.0.1 ∙ b.0.1, a.0.2 ∙ b.0.2), a.1 ∙ b.1, along_both x.1 xs y.1 ys z.1 zs a.2 b.2)
along_both d [] e (y ∷ ys) f zs a b = absurd a
along_both d (x ∷ xs) e [] f zs a b = absurd a
along_both d [] e [] f (z ∷ zs) a b = absurd b
along_both d (x ∷ xs) e (y ∷ ys) f [] a b = absurd b

module _ (p : Problem) where
  -- ---- the start

  steps_have : (before d e : Five) (xs : List (Instance × Five)) → Within d.kf e.kf → d.kx ≡ e.kx → d.lcw ≡ e.lcw → WithinAlong d xs e (settled_steps p before xs)
  steps_have before d e [] w g r = (w, g, r)
  steps_have before d e (x ∷ xs) w g r =
      let news = forward p x.0 before ++ from_next p x.1 xs in
      ((w, g, r), refl, steps_have x.1 x.1 (grown p.signature x.1 news) xs (grown_has p.signature x.1 news) refl refl)

  round_has : (h : History) → WithinAlong h.start h.steps (settle_round p h).start (settle_round p h).steps
  unfolding settle_round
  round_has h =
      let news = from_next p h.start h.steps in
      steps_have h.start h.start (grown p.signature h.start news) h.steps (grown_has p.signature h.start news) refl refl

  pub rounds_have_start : (h : History) (n : ℕ) → WithinAlong h.start h.steps (settle_rounds p n h).start (settle_rounds p n h).steps
  rounds_have_start h zero = along_itself h.start h.steps
  rounds_have_start h (suc n) =
      let g = settle_rounds p n h in
      let k = settle_round p g in
      along_both h.start h.steps g.start g.steps k.start k.steps (rounds_have_start h n) (round_has g)

  -- ---- the end

  fine_alone : (d : Five) → is_some (first_clash p.signature d) ≡ false → first_clash p.signature d ≡ None
  fine_alone d h =
      elim (first_clash p.signature d) as (λ o. is_some o ≡ false → o ≡ None) [ None ↦ λ k. refl | Some l ↦ λ k. absurd (true≢false k) ] h

  abbrev head_or : Five → List (Instance × Five) → Five
  head_or d [] = d
  head_or d (x ∷ xs) = x.1

  abbrev tail_of : List (Instance × Five) → List (Instance × Five)
  tail_of [] = []
  tail_of (x ∷ xs) = xs

  closed_from : (d : Five) (xs : List (Instance × Five)) → IsSaturated p.signature d → Within (from_next p d xs) d.kf → settled_steps p d xs ≡ xs
      → (is_some (first_clash p.signature d) || list_any (λ (x : Instance × Five). is_some (first_clash p.signature x.1)) xs) ≡ false → ClosedAlong p d xs
  closed_from d [] own next same fine = (own, fine_alone d (or_parts (is_some (first_clash p.signature d)) false fine).0)
  closed_from d (x ∷ xs) own next same fine =
      let parts = or_parts (is_some (first_clash p.signature d)) _ fine in
      let gained = forward p x.0 d in
      let news = gained ++ from_next p x.1 xs in
      let still : grown p.signature x.1 news ≡ x.1 = ap (head_or d) same in
      let all = news_in p.signature x.1 news still in (
        (own, fine_alone d parts.0),
        λ l i. all l (in_left gained (from_next p x.1 xs) l i),
        next,
        closed_from x.1 xs (additions_in p.signature x.1 news still) (λ l i. all l (in_right gained (from_next p x.1 xs) l i)) (ap tail_of same) parts.1,
      )

  pub end_closed : (g : History) → settle_round p g ≡ g → clashes p.signature g ≡ false → ClosedAlong p g.start g.steps
  unfolding settle_round
  end_closed g same fine =
      let news = from_next p g.start g.steps in
      let still : grown p.signature g.start news ≡ g.start = ap (λ (h : History). h.start) same in
      closed_from g.start g.steps (additions_in p.signature g.start news still) (news_in p.signature g.start news still) (ap (λ (h : History). h.steps) same) fine
