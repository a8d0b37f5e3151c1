-- Settling comes to an end: there are only so many literals below a bound, and a round that isn't the last adds some.
use Rattle.std.proofs.Common.{◌≡◌, ◌⊎◌, ◌&&◌, ◌++◌, ◌+◌, ◌<◌, ◌≤◌, ℕ, zero, suc, Bool, true, false, List, [], ◌∷◌, length, slice_get, Option, Some, None, refl, sym, ap, subst, inl, inr, ⊎_elim, true≢false, arith}
use Rattle.std.specs.Option.{option_map_or}
use Rattle.std.proofs.lemmas.Bool.{cases_lt, and_parts}
use Rattle.std.proofs.lemmas.Option.{none-some, same_Some}
use Rattle.pks_terms.specs.Sets.{Each, IsOrdered, added}
use Rattle.pks_terms.specs.Syntax.{Form, Object, Parameter, Apply, Inner, Term, Relation, Named, Equality, Literal}
use Rattle.pks_terms.specs.Orders.{literal_cmp}
use Rattle.pks_terms.specs.Signatures.{Shape, Signature, object_is_of, fits_type}
use Rattle.pks_terms.specs.Databases.{Five}
use Rattle.pks_terms.specs.Closure.{additions}
use Rattle.pks_terms.specs.Actions.{Target, Set, Unset, Clear, Assign, Effect, Instance}
use Rattle.pks_terms.specs.Problems.{Problem}
use Rattle.pks_terms.specs.Settling.{History, effects_of, forward, grown, from_next, settled_steps, settle_round, settle_rounds}
use Rattle.pks_terms.specs.Valid.{all_fit, form_fits, inner_fits, term_fits, is_term, is_related, is_literal, AreOf, IsTargetText, IsValid}
use Rattle.pks_terms.specs.Handed.{IsStepOf}
use Rattle.pks_terms.specs.Moments.{IsMomentOf, AreMomentsOf}
use Rattle.pks_terms.proofs.ListLaws.{each_append, each_added, each_weaker}
use Rattle.pks_terms.proofs.SetLaws.{added_longer, added_same}
use Rattle.pks_laws.proofs.Belonging.{L, related}
use Rattle.pks_laws.proofs.BelongingSteps.{declared}
use Rattle.pks_laws.proofs.BelongingHistories.{effects_written}
use Rattle.pks_laws.proofs.Fitting.{type_of_term}
use Rattle.pks_laws_progress.proofs.Bounded.{most, at_most}
use Rattle.pks_laws_progress.proofs.Small.{FormSmall, InnerSmall, TermSmall, RelationSmall, LiteralSmall, TargetSmall, EffectSmall, FiveSmall, additions_small, forward_small, backward_small}
use Rattle.pks_laws_forget.proofs.Ends.{AreOrdered, round_ordered}

-- ---- rounds

abbrev sizes : List (Instance × Five) → ℕ
sizes [] = 0
sizes (x ∷ xs) = length x.1.kf + sizes xs

abbrev rooms : ℕ → List (Instance × Five) → ℕ
rooms n [] = 0
rooms n (x ∷ xs) = n + rooms n xs

module _ (p : Problem) where
  grown_more : (d : Five) (news : List Literal) → (grown p.signature d news ≡ d) ⊎ (length d.kf < length (grown p.signature d news).kf)
  grown_more d news =
      let more = added_longer literal_cmp d.kf (additions p.signature d ++ news) in
      ⊎_elim (λ lt. inr lt)
      (λ ge. let same : length (added literal_cmp d.kf (additions p.signature d ++ news)) ≡ length d.kf = omega arith in inl (λ i. record d { kf = added_same literal_cmp d.kf (additions p.signature d ++ news) same i }))
      (cases_lt (length d.kf) (length (added literal_cmp d.kf (additions p.signature d ++ news))))

  grown_longer : (d : Five) (news : List Literal) → length d.kf ≤ length (grown p.signature d news).kf
  grown_longer d news = added_longer literal_cmp d.kf (additions p.signature d ++ news)

  steps_longer : (d : Five) (xs : List (Instance × Five)) → sizes xs ≤ sizes (settled_steps p d xs)
  steps_longer d [] = omega arith
  steps_longer d (x ∷ xs) = let a = grown_longer x.1 (forward p x.0 d ++ from_next p x.1 xs) in let c = steps_longer x.1 xs in omega arith

  steps_more : (d : Five) (xs : List (Instance × Five)) → (settled_steps p d xs ≡ xs) ⊎ (sizes xs < sizes (settled_steps p d xs))
  steps_more d [] = inl refl
  steps_more d (x ∷ xs) =
      let news = forward p x.0 d ++ from_next p x.1 xs in
      ⊎_elim
      (λ e. ⊎_elim
      (λ q. inl (λ i. (x.0, e i) ∷ q i))
      (λ more. let a = grown_longer x.1 news in inr (omega arith))
      (steps_more x.1 xs))
      (λ more. let c = steps_longer x.1 xs in inr (omega arith))
      (grown_more x.1 news)

  abbrev size : History → ℕ
  size h = length h.start.kf + sizes h.steps

  round_more : (h : History) → (settle_round p h ≡ h) ⊎ (size h < size (settle_round p h))
  unfolding settle_round
  round_more h =
      let news = from_next p h.start h.steps in
      ⊎_elim
      (λ e. ⊎_elim
      (λ q. inl (λ i. record { start = e i; steps = q i }))
      (λ more. let a = grown_longer h.start news in inr (omega arith))
      (steps_more h.start h.steps))
      (λ more. let c = steps_longer h.start h.steps in inr (omega arith))
      (grown_more h.start news)

  same_rooms : (n : ℕ) (d : Five) (xs : List (Instance × Five)) → rooms n (settled_steps p d xs) ≡ rooms n xs
  same_rooms n d [] = refl
  same_rooms n d (x ∷ xs) = ap (λ k. n + k) (same_rooms n x.1 xs)

  -- ---- all moments below a bound

  module _ (b : ℕ) (two : 2 ≤ b) (objects : length p.signature.objects ≤ b) where
    abbrev AreSmall : Five → List (Instance × Five) → Type 0
    AreSmall d xs = FiveSmall b d × Each (λ x. Each (EffectSmall b) (effects_of p x.0) × FiveSmall b x.1) xs

    grown_small : (d : Five) (news : List Literal) → FiveSmall b d → Each (LiteralSmall b) news → FiveSmall b (grown p.signature d news)
    grown_small d news h a = (each_added (LiteralSmall b) literal_cmp d.kf (additions p.signature d ++ news) h.0 (each_append (LiteralSmall b) (additions p.signature d) news (additions_small b two p.signature d objects h) a), h.1)

    next_small : (d : Five) (xs : List (Instance × Five)) → FiveSmall b d → Each (λ x. Each (EffectSmall b) (effects_of p x.0) × FiveSmall b x.1) xs → Each (LiteralSmall b) (from_next p d xs)
    next_small d [] h a = tt
    next_small d (x ∷ xs) h a = backward_small b two p.signature (effects_of p x.0) a.0.0 d h.0 x.1 a.0.1.0

    steps_small : (d : Five) (xs : List (Instance × Five)) → FiveSmall b d → Each (λ x. Each (EffectSmall b) (effects_of p x.0) × FiveSmall b x.1) xs → Each (λ x. Each (EffectSmall b) (effects_of p x.0) × FiveSmall b x.1) (settled_steps p d xs)
    steps_small d [] h a = tt
    steps_small d (x ∷ xs) h a = (
      (a.0.0, grown_small x.1 (forward p x.0 d ++ from_next p x.1 xs) a.0.1 (each_append (LiteralSmall b) (forward p x.0 d) (from_next p x.1 xs) (forward_small b two p.signature (effects_of p x.0) a.0.0 d h.0) (next_small x.1 xs a.0.1 a.1))),
      steps_small x.1 xs a.0.1 a.1,
    )

    round_small : (h : History) → AreSmall h.start h.steps → AreSmall (settle_round p h).start (settle_round p h).steps
    unfolding settle_round
    round_small h a = (grown_small h.start (from_next p h.start h.steps) a.0 (next_small h.start h.steps a.0 a.1), steps_small h.start h.steps a.0 a.1)

    steps_at_most : (xs : List (Instance × Five)) → Each (λ x. IsOrdered literal_cmp x.1.kf) xs → Each (λ x. Each (EffectSmall b) (effects_of p x.0) × FiveSmall b x.1) xs → sizes xs ≤ rooms (most b) xs
    steps_at_most [] o a = omega arith
    steps_at_most (x ∷ xs) o a = let c = at_most b x.1.kf o.0 a.0.1.0 in let r = steps_at_most xs o.1 a.1 in omega arith

    size_at_most : (h : History) → AreOrdered h.start h.steps → AreSmall h.start h.steps → size h ≤ most b + rooms (most b) h.steps
    size_at_most h o a = let c = at_most b h.start.kf o.0 a.0.0 in let r = steps_at_most h.steps o.1 a.1 in omega arith

    round_rooms : (h : History) → rooms (most b) (settle_round p h).steps ≡ rooms (most b) h.steps
    unfolding settle_round
    round_rooms h = same_rooms (most b) h.start h.steps

    -- so many rounds more are enough
    ends_in : (k n : ℕ) (h : History) → AreOrdered (settle_rounds p n h).start (settle_rounds p n h).steps → AreSmall (settle_rounds p n h).start (settle_rounds p n h).steps → most b + rooms (most b) (settle_rounds p n h).steps ≤ size (settle_rounds p n h) + k
        → (m : ℕ) × (settle_round p (settle_rounds p m h) ≡ settle_rounds p m h)
    ends_in zero n h o a l =
        let g = settle_rounds p n h in
        let r = round_rooms g in
        let top = size_at_most (settle_round p g) (round_ordered p g o) (round_small g a) in
        ⊎_elim (λ e. (n, e)) (λ more. absurd (omega arith)) (round_more g)
    ends_in (suc k) n h o a l =
        let g = settle_rounds p n h in
        let r = round_rooms g in
        ⊎_elim (λ e. (n, e)) (λ more. ends_in k (suc n) h (round_ordered p g o) (round_small g a) (omega arith)) (round_more g)

    pub settling_ends : (h : History) → AreOrdered h.start h.steps → AreSmall h.start h.steps → (m : ℕ) × (settle_round p (settle_rounds p m h) ≡ settle_rounds p m h)
    settling_ends h o a = ends_in (most b + rooms (most b) h.steps) zero h o a (omega arith)

-- ---- what is of the signature is below a bound

module _ (p : Problem) (v : IsValid p) (bound : ℕ) (enough : 3 + (length p.signature.objects + (length p.signature.functions + length p.signature.predicates)) ≤ bound) where
  abbrev S : Signature
  S = p.signature

  object_small : (wanted d : ℕ) → object_is_of S wanted d ≡ true → d < bound
  unfolding object_is_of
  object_small wanted d h = go (slice_get S.objects d) refl h
    where
      go : (o : Option ℕ) → slice_get S.objects d ≡ o → option_map_or (λ own. fits_type S own wanted) o false ≡ true → d < bound
      go None q k = absurd (true≢false (sym k))
      go (Some own) q k = let l = declared S.objects d own q in (let wide = enough in omega arith)

  -- els many arguments els are wanted, each below the bound
  all_small : {A : Type 0} (fits : ℕ → A → Bool) (P : A → Type 0) → ((a : ℕ) (t : A) → fits a t ≡ true → P t) → (tys : List ℕ) (ts : List A) → all_fit fits tys ts ≡ true → (length ts ≡ length tys) × Each P ts
  all_small fits P f [] [] h = (refl, tt)
  all_small fits P f [] (t ∷ ts) h = absurd (true≢false (sym h))
  all_small fits P f (a ∷ tys) [] h = absurd (true≢false (sym h))
  all_small fits P f (a ∷ tys) (t ∷ ts) h = let q = and_parts (fits a t) _ h in let r = all_small fits P f tys ts q.1 in (ap suc r.0, (f a t q.0, r.1))

  function_short : (f : ℕ) (x : Shape) → slice_get S.functions f ≡ Some x → length x.arguments ≤ 3
  function_short f x q = go S.functions f q v.signature.functions.0
    where
      go : (xs : List Shape) (f : ℕ) → slice_get xs f ≡ Some x → Each (λ (x : Shape). Each (λ a. a < S.types) x.arguments × (length x.arguments ≤ 2) × (x.result < S.types)) xs → length x.arguments ≤ 3
      go [] f q a = absurd (none-some x q)
      go (y ∷ ys) zero q a = let e = same_Some y x q in subst (λ (z : Shape). length z.arguments ≤ 3) e (let l = a.0.1 in (let wide = enough in omega arith))
      go (y ∷ ys) (suc f) q a = go ys f q a.1

  predicate_short : (f : ℕ) (x : Shape) → slice_get S.predicates f ≡ Some x → length x.arguments ≤ 3
  predicate_short f x q = go S.predicates f q v.signature.predicates.0
    where
      go : (xs : List Shape) (f : ℕ) → slice_get xs f ≡ Some x → Each (λ (x : Shape). Each (λ a. a < S.types) x.arguments × (length x.arguments ≤ 3)) xs → length x.arguments ≤ 3
      go [] f q a = absurd (none-some x q)
      go (y ∷ ys) zero q a = let e = same_Some y x q in subst (λ (z : Shape). length z.arguments ≤ 3) e a.0.1
      go (y ∷ ys) (suc f) q a = go ys f q a.1

  form_small : {A : Type 0} (fits : ℕ → A → Bool) (P : A → Type 0) → ((a : ℕ) (t : A) → fits a t ≡ true → P t) → (wanted : ℕ) (t : Form A) → form_fits fits S [] wanted t ≡ true → FormSmall P bound t
  form_small fits P f wanted (Object d) h = object_small wanted d h
  form_small fits P f wanted (Parameter i) h = absurd (true≢false (sym h))
  form_small {A} fits P f wanted (Apply g ts) h = go (slice_get S.functions g) refl h
    where
      go : (o : Option Shape) → slice_get S.functions g ≡ o → option_map_or (λ (x : Shape). all_fit fits x.arguments ts && fits_type S x.result wanted) o false ≡ true → (g < bound) × (length ts ≤ bound) × Each P ts
      go None q k = absurd (true≢false (sym k))
      go (Some x) q k =
          let r = all_small fits P f x.arguments ts (and_parts (all_fit fits x.arguments ts) _ k).0 in
          let l = declared S.functions g x q in
          let short = function_short g x q in
          ((let wide = enough in omega arith), (let e = r.0 in (let wide = enough in omega arith)), r.1)

  inner_small : (wanted : ℕ) (u : Inner) → inner_fits S [] wanted u ≡ true → InnerSmall bound u
  inner_small = form_small (object_is_of S) (λ d. d < bound) object_small

  term_small : (wanted : ℕ) (t : Term) → term_fits S [] wanted t ≡ true → TermSmall bound t
  unfolding term_fits
  term_small = form_small (inner_fits S []) (InnerSmall bound) inner_small

  typed_small : (t : Term) → is_term S [] t ≡ true → TermSmall bound t
  typed_small t h = let q = type_of_term S [] t h in term_small q.0 t q.1

  related_small : (r : Relation) (ts : List Term) → is_related S [] r ts ≡ true → RelationSmall bound r × (length ts ≤ bound) × Each (TermSmall bound) ts
  related_small (Named n) ts h = go (slice_get S.predicates n) refl h
    where
      go : (o : Option Shape) → slice_get S.predicates n ≡ o → option_map_or (λ (x : Shape). all_fit (term_fits S []) x.arguments ts) o false ≡ true → (n < bound) × (length ts ≤ bound) × Each (TermSmall bound) ts
      go None q k = absurd (true≢false (sym k))
      go (Some x) q k =
          let r = all_small (term_fits S []) (TermSmall bound) term_small x.arguments ts k in
          let l = declared S.predicates n x q in
          let short = predicate_short n x q in
          ((let wide = enough in omega arith), (let e = r.0 in (let wide = enough in omega arith)), r.1)
  related_small Equality (t ∷ u ∷ []) h = let q = and_parts (is_term S [] t) _ h in (tt, (let wide = enough in omega arith), (typed_small t q.0, (typed_small u q.1, tt)))
  related_small Equality [] h = absurd (true≢false (sym h))
  related_small Equality (t ∷ []) h = absurd (true≢false (sym h))
  related_small Equality (t ∷ u ∷ w ∷ ts) h = absurd (true≢false (sym h))

  literal_small : (l : Literal) → is_literal S [] l ≡ true → LiteralSmall bound l
  literal_small l h = related_small l.relation l.arguments (related S l h)

  literals_small : (ls : List Literal) → Each (λ l. is_literal S [] l ≡ true) ls → Each (LiteralSmall bound) ls
  literals_small ls a = each_weaker (λ l. is_literal S [] l ≡ true) (LiteralSmall bound) literal_small ls a

  five_small : (d : Five) → AreOf S d → FiveSmall bound d
  five_small d m = (literals_small d.kf m.known, each_weaker (Each (λ l. is_literal S [] l ≡ true)) (Each (LiteralSmall bound)) literals_small d.kx m.groups)

  target_small : (x : Target) → IsTargetText S [] x → TargetSmall bound x
  target_small (Set a) h = related_small (Named a.predicate) a.arguments h
  target_small (Unset a) h = related_small (Named a.predicate) a.arguments h
  target_small (Clear x) h = tt
  target_small (Assign f ts value) h =
      let r = all_small (inner_fits S []) (InnerSmall bound) inner_small h.0.arguments ts h.2 in
      let l = declared S.functions f h.0 h.1 in
      let short = function_short f h.0 h.1 in
      (((let wide = enough in omega arith), (let e = r.0 in (let wide = enough in omega arith)), r.1), term_small h.0.result value h.3)

  effects_small : (i : Instance) → IsStepOf p i → Each (EffectSmall bound) (effects_of p i)
  effects_small i fit = each_weaker (λ (e : Effect). Each (L S) e.condition × IsTargetText S [] e.target) (EffectSmall bound) (λ e h. (literals_small e.condition h.0, target_small e.target h.1)) (effects_of p i) (effects_written p v i fit)

  total : (h : History) → AreMomentsOf p h → AreOrdered h.start h.steps → (m : ℕ) × (settle_round p (settle_rounds p m h) ≡ settle_rounds p m h)
  total h m o =
      settling_ends p bound ((let wide = enough in omega arith)) ((let wide = enough in omega arith)) h o
      (five_small h.start m.start.of, each_weaker (λ (x : Instance × Five). IsStepOf p x.0 × IsMomentOf S x.1) (λ x. Each (EffectSmall bound) (effects_of p x.0) × FiveSmall bound x.1) (λ x k. (effects_small x.0 k.0, five_small x.1 k.1.of)) h.steps m.steps)

-- a history of the problem, in order, settles
pub settling_is_total : (p : Problem) → IsValid p → (h : History) → AreMomentsOf p h → AreOrdered h.start h.steps → (m : ℕ) × (settle_round p (settle_rounds p m h) ≡ settle_rounds p m h)
settling_is_total p v = total p v (3 + (length p.signature.objects + (length p.signature.functions + length p.signature.predicates))) (omega arith)
