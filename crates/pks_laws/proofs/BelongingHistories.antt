-- Settling makes histories of a signature of histories of it, each moment closed.
use Rattle.std.proofs.Common.{◌≡◌, ◌&&◌, ◌++◌, ℕ, zero, suc, Bool, true, false, not, cond, is_some, List, [], ◌∷◌, length, map, filter, flat_map, slice_get, Option, Some, None, refl, sym, ap, ◌∙◌, subst, inl, true≢false, arith}
use Rattle.std.specs.List.{list_any, list_all}
use Rattle.std.specs.Option.{option_map_or}
use Rattle.std.proofs.lemmas.Bool.{and_from, or_parts}
use Rattle.pks_terms.specs.Sets.{Each, with_others, with_later, choices_from, added}
use Rattle.pks_terms.specs.Syntax.{Apply, Inner, Term, term_of, Named, Literal, negated}
use Rattle.pks_terms.specs.Orders.{literal_cmp, literal, equation}
use Rattle.pks_terms.specs.Totality.{literal_cmp_total}
use Rattle.pks_terms.specs.Signatures.{Shape, Signature, fits_type}
use Rattle.pks_terms.specs.Databases.{Five, values_at, holds}
use Rattle.pks_terms.specs.Closure.{additions, round, first_clash, tidied, Next, Clash, IsClosed}
use Rattle.pks_terms.specs.Actions.{Target, Set, Unset, Clear, Assign, Effect, Instance}
use Rattle.pks_terms.specs.Spoiling.{is_stable, are_stable, spoils}
use Rattle.pks_terms.specs.Problems.{Problem, schema_of}
use Rattle.pks_terms.specs.Settling.{History, argument_forms, term_forms, stable_forms, target_forms, can_be_undone, is_made_otherwise, lasting, lasted, fired, must_have_fired, cannot_have_fired, effects_of, forward, backward, grown, from_next, settled_steps, settle_round, settle_rounds, State, At, Stopped, clashes, tidied_history, Settles}
use Rattle.pks_terms.specs.Saturated.{Within}
use Rattle.pks_terms.specs.Valid.{all_fit, inner_fits, term_fits, AreOf, IsTargetText, IsValid}
use Rattle.pks_terms.proofs.ListLaws.{each_append, each_in, each_of, each_map, each_kept, each_flat_map, each_added, each_weaker, in_filtered}
use Rattle.pks_terms.proofs.OrderLaws.{literal_cmp_tells}
use Rattle.pks_terms.proofs.SetLaws.{added-append, added_longer, added_same, added_in}
use Rattle.pks_laws.proofs.Least.{in_filter_map, in_filter_mapped, ranged}
use Rattle.pks_laws.proofs.Fitting.{Keeps, AllKeep, all_fit_kept, choices_keep, argument_forms_keep, term_forms_keep, AllMove, term_that_fits, literal_kept}
use Rattle.pks_laws.proofs.Belonging.{L, T, negated_of, equation_of, if_of, others_of, additions_of, saturated_end, tidied_of}
use Rattle.pks_laws.proofs.BelongingSteps.{schema_text, put_effects}
use Rattle.pks_laws.specs.OfSignature.{HasOwnValues, IsHistoryOf}
use Rattle.pks_terms.specs.Handed.{IsStepOf}

pub later_each : {X : Type 0} (P : X → Type 0) (xs : List X) → Each P xs → Each (λ q. P q.0 × Each P q.1) (with_later xs)
later_each P [] a = tt
later_each P (x ∷ xs) a = ((a.0, a.1), later_each P xs a.1)

pub other_each : {X : Type 0} (P : X → Type 0) (xs : List X) → Each P xs → Each (λ q. P q.0 × Each P q.1) (with_others xs)
other_each P [] a = tt
other_each {X} P (x ∷ xs) a = (
  (a.0, a.1),
  each_map (λ (q : X × List X). P q.0 × Each P q.1) (λ q. (q.0, x ∷ q.1)) (with_others xs) (each_weaker (λ q. P q.0 × Each P q.1) (λ q. P q.0 × Each P (x ∷ q.1)) (λ q k. (k.0, (a.0, k.1))) (with_others xs) (other_each P xs a.1)),
)

-- ---- one step of a history

module _ (s : Signature) where
  abbrev pub IsWritten : Effect → Type 0
  IsWritten e = Each (L s) e.condition × IsTargetText s [] e.target

  module _ (es : List Effect) (written : Each IsWritten es) (before : Five) (m : AreOf s before) (own : HasOwnValues s before.kf) where
    forms_move : (ts : List Term) → Each (AllMove s [] [] ts) (stable_forms s before es ts)
    forms_move ts = each_kept (AllMove s [] [] ts) (are_stable s before es) (choices_from (map (term_forms before.kf) ts)) (choices_keep (term_fits s []) (term_forms before.kf) (term_forms_keep s before.kf own []) ts)

    application_of : (f : ℕ) (x : Shape) (us : List Inner) → slice_get s.functions f ≡ Some x → all_fit (inner_fits s []) x.arguments us ≡ true → T s (Apply f us)
    unfolding term_fits
    application_of f x us q h =
        unfold term_fits in term_that_fits s [] x.result (Apply f us) (ap (λ (o : Option Shape). option_map_or (λ (y : Shape). all_fit (inner_fits s []) y.arguments us && fits_type s y.result x.result) o false) q ∙ and_from _ _ h (Rattle.pks_terms.proofs.Types.fits_itself s x.result))

    target_forms_of : (x : Target) → IsTargetText s [] x → Each (L s) (target_forms s before es x)
    target_forms_of (Set a) t =
        each_map (L s) (λ ts. literal (Named a.predicate) ts true) (stable_forms s before es a.arguments)
        (each_weaker (AllMove s [] [] a.arguments) (λ ts. L s (literal (Named a.predicate) ts true)) (λ ts k. literal_kept s [] [] (Named a.predicate) a.arguments ts true k t) (stable_forms s before es a.arguments) (forms_move a.arguments))
    target_forms_of (Unset a) t =
        each_map (L s) (λ ts. literal (Named a.predicate) ts false) (stable_forms s before es a.arguments)
        (each_weaker (AllMove s [] [] a.arguments) (λ ts. L s (literal (Named a.predicate) ts false)) (λ ts k. literal_kept s [] [] (Named a.predicate) a.arguments ts false k t) (stable_forms s before es a.arguments) (forms_move a.arguments))
    target_forms_of (Clear x) t = tt
    target_forms_of (Assign f ts value) t =
        let F = inner_fits s [] in
        each_flat_map (L s) (λ us. map (equation (Apply f us)) (filter (is_stable s before es) (term_forms before.kf value))) (filter (λ us. are_stable s before es (map term_of us)) (argument_forms before.kf ts))
        (λ us i.
        each_map (L s) (equation (Apply f us)) (filter (is_stable s before es) (term_forms before.kf value))
        (each_weaker (Keeps (term_fits s []) (term_fits s []) value) (λ u. L s (equation (Apply f us) u))
        (λ u k. equation_of s (Apply f us) u
        (application_of f t.0 us t.1 (all_fit_kept F F t.0.arguments ts us (each_in (AllKeep F F ts) (argument_forms before.kf ts) us (argument_forms_keep s before.kf own [] ts) (in_filtered (λ us. are_stable s before es (map term_of us)) (argument_forms before.kf ts) us i).0) t.2))
        (term_that_fits s [] t.0.result u (k t.0.result t.3)))
        (filter (is_stable s before es) (term_forms before.kf value)) (each_kept (Keeps (term_fits s []) (term_fits s []) value) (is_stable s before es) (term_forms before.kf value) (term_forms_keep s before.kf own [] value))))

    fired_of : (p : Effect × List Effect) → IsWritten p.0 → Each (L s) (fired s es before p)
    fired_of p w = if_of s (L s) (list_all (holds s before) p.0.condition && not (can_be_undone s before p)) (target_forms s before es p.0.target) (target_forms_of p.0.target w.1)

    must_of : (after : Five) (p : Effect × List Effect) → IsWritten p.0 → Each (L s) (must_have_fired s es before after p)
    must_of after p w = if_of s (L s) (list_any (λ l. holds s before (negated l) && holds s after l) (target_forms s before es p.0.target) && not (is_made_otherwise s before p)) p.0.condition w.0

    cannot_of : (after : Five) (p : Effect × List Effect) → IsWritten p.0 → Each (L s) (cannot_have_fired s es before after p)
    cannot_of after p w =
        let news = flat_map (λ c. cond (list_all (holds s before) c.1) (negated c.0 ∷ []) []) (with_others p.0.condition) in
        if_of s (L s) (list_any (λ l. holds s after (negated l)) (target_forms s before es p.0.target) && not (can_be_undone s before p)) news
        (each_flat_map (L s) (λ (c : Literal × List Literal). cond (list_all (holds s before) c.1) (negated c.0 ∷ []) []) (with_others p.0.condition)
        (λ c i. if_of s (L s) (list_all (holds s before) c.1) (negated c.0 ∷ []) (negated_of s c.0 (each_in (λ q. L s q.0 × Each (L s) q.1) (with_others p.0.condition) c (others_of s p.0.condition w.0) i).0, tt)))

abbrev pub is_clash : State → Bool
is_clash (At x) = false
is_clash Stopped = true

abbrev pub history_or : History → State → History
history_or g (At x) = x
history_or g Stopped = g

abbrev pub rest_of_steps : List (Instance × Five) → List (Instance × Five)
rest_of_steps [] = []
rest_of_steps (step ∷ steps) = steps

-- ---- the end of the rounds: each moment is closed by the rules, and none clashes

module _ (p : Problem) where
  -- a moment that doesn't grow is left as it is by a round
  still : (d : Five) (news : List Literal) → (grown p.signature d news).kf ≡ d.kf → round p.signature d ≡ d
  unfolding round
  still d news e =
      let split = added-append literal_cmp d.kf (additions p.signature d) news in
      let once = added literal_cmp d.kf (additions p.signature d) in
      let longer = added_longer literal_cmp d.kf (additions p.signature d) in
      let longest = added_longer literal_cmp once news in
      let whole : length (added literal_cmp once news) ≡ length d.kf = ap length (sym split ∙ e) in
      let same : length once ≡ length d.kf = omega arith in
      λ i. record d { kf = added_same literal_cmp d.kf (additions p.signature d) same i }

  abbrev IsEnd : Five → Type 0
  IsEnd d = (round p.signature d ≡ d) × (first_clash p.signature d ≡ None)

  end_closed : (d : Five) → IsEnd d → IsClosed p.signature (tidied d)
  end_closed d e = record { from = d; closes = record { count = 0; last = e.0; gives = sym (ap (λ (r : Option Literal). option_map_or Rattle.pks_terms.specs.Closure.Clash r (Next (tidied d))) e.1) } }

  no_clash_is : (o : Option Literal) → is_some o ≡ false → o ≡ None
  no_clash_is None h = refl
  no_clash_is (Some l) h = absurd (true≢false h)

  abbrev first_kf : List (Instance × Five) → List Literal
  first_kf [] = []
  first_kf (step ∷ steps) = step.1.kf

  steps_end : (before : Five) (steps : List (Instance × Five)) → settled_steps p before steps ≡ steps → list_any (λ step. is_some (first_clash p.signature step.1)) steps ≡ false → Each (λ step. IsEnd step.1) steps
  steps_end before [] e c = tt
  steps_end before (step ∷ steps) e c =
      let o = or_parts (is_some (first_clash p.signature step.1)) _ c in
      ((still step.1 (forward p step.0 before ++ from_next p step.1 steps) (ap first_kf e), no_clash_is (first_clash p.signature step.1) o.0), steps_end step.1 steps (ap rest_of_steps e) o.1)

  module _ (h g : History) (s : Settles p h (At g)) where
    abbrev end : History
    end = settle_rounds p s.count h

    no_moment : (b : Bool) → At g ≡ cond b Stopped (At (tidied_history end)) → (b ≡ false) × (g ≡ tidied_history end)
    no_moment true e = absurd (true≢false (sym (ap is_clash e)))
    no_moment false e = (refl, ap (history_or g) e)

    ends : IsEnd end.start × Each (λ step. IsEnd step.1) end.steps
    unfolding settle_round
    ends =
        let o = or_parts (is_some (first_clash p.signature end.start)) _ (no_moment (clashes p.signature end) s.gives).0 in
        let last = s.last in (
          (still end.start (from_next p end.start end.steps) (ap (λ (x : History). x.start.kf) last), no_clash_is (first_clash p.signature end.start) o.0),
          steps_end end.start end.steps (ap (λ (x : History). x.steps) last) o.1,
        )

    -- each moment is closed
    pub settled_closed : IsClosed p.signature g.start × Each (λ step. IsClosed p.signature step.1) g.steps
    settled_closed =
        subst (λ (x : History). IsClosed p.signature x.start × Each (λ step. IsClosed p.signature step.1) x.steps) (sym (no_moment (clashes p.signature end) s.gives).1)
        (end_closed end.start ends.0, each_map (λ (step : Instance × Five). IsClosed p.signature step.1) (λ step. (step.0, tidied step.1)) end.steps (each_weaker (λ step. IsEnd step.1) (λ step. IsClosed p.signature (tidied step.1)) (λ step e. end_closed step.1 e) end.steps ends.1))

module _ (p : Problem) (v : IsValid p) where
  abbrev S : Signature
  S = p.signature

  pub effects_written : (i : Instance) → IsStepOf p i → Each (IsWritten S) (effects_of p i)
  effects_written i fit = let text = schema_text p v i.action in put_effects S (schema_of p i.action).parameters i.arguments fit.arguments (schema_of p i.action).effects text.effects

  pub forward_of : (i : Instance) (before : Five) → IsStepOf p i → AreOf S before → HasOwnValues S before.kf → Each (L S) (forward p i before)
  forward_of i before fit m own =
      let es = effects_of p i in
      let written = effects_written i fit in
      each_append (L S) (lasting S es before) (flat_map (fired S es before) (with_later es)) (each_kept (L S) (λ l. not (spoils S before es l)) before.kf m.known)
      (each_flat_map (L S) (fired S es before) (with_later es) (λ q j. fired_of S es written before m own q (each_in (λ q. IsWritten S q.0 × Each (IsWritten S) q.1) (with_later es) q (later_each (IsWritten S) es written) j).0))

  pub backward_of : (i : Instance) (before after : Five) → IsStepOf p i → AreOf S before → HasOwnValues S before.kf → AreOf S after → Each (L S) (backward p i before after)
  backward_of i before after fit m own n =
      let es = effects_of p i in
      let written = effects_written i fit in
      each_append (L S) (lasted S es before after) (flat_map (must_have_fired S es before after) (with_others es) ++ flat_map (cannot_have_fired S es before after) (with_later es)) (each_kept (L S) (λ l. not (spoils S before es (negated l))) after.kf n.known)
      (each_append (L S) (flat_map (must_have_fired S es before after) (with_others es)) (flat_map (cannot_have_fired S es before after) (with_later es))
      (each_flat_map (L S) (must_have_fired S es before after) (with_others es) (λ q j. must_of S es written before m own after q (each_in (λ q. IsWritten S q.0 × Each (IsWritten S) q.1) (with_others es) q (other_each (IsWritten S) es written) j).0))
      (each_flat_map (L S) (cannot_have_fired S es before after) (with_later es) (λ q j. cannot_of S es written before m own after q (each_in (λ q. IsWritten S q.0 × Each (IsWritten S) q.1) (with_later es) q (later_each (IsWritten S) es written) j).0)))

  -- ---- a round over the family

  abbrev IsStep : Instance × Five → Type 0
  IsStep step = IsStepOf p step.0 × AreOf S step.1

  abbrev HasOwnStep : Instance × Five → Type 0
  HasOwnStep step = HasOwnValues S step.1.kf

  pub grown_of : (d : Five) (news : List Literal) → AreOf S d → HasOwnValues S d.kf → Each (L S) news → AreOf S (grown S d news)
  grown_of d news m own a = record {
    known = each_added (L S) literal_cmp d.kf (additions S d ++ news) m.known (each_append (L S) (additions S d) news (additions_of S d m own) a);
    whether = m.whether;
    values = m.values;
    groups = m.groups;
    regions = m.regions;
  }

  from_next_of : (d : Five) (steps : List (Instance × Five)) → AreOf S d → HasOwnValues S d.kf → Each IsStep steps → Each (L S) (from_next p d steps)
  from_next_of d [] m own a = tt
  from_next_of d (step ∷ steps) m own a = backward_of step.0 d step.1 a.0.0 m own a.0.1

  steps_of : (before : Five) (steps : List (Instance × Five)) → AreOf S before → HasOwnValues S before.kf → Each IsStep steps → Each HasOwnStep steps → Each IsStep (settled_steps p before steps)
  steps_of before [] m own a b = tt
  steps_of before (step ∷ steps) m own a b = (
    (a.0.0, grown_of step.1 (forward p step.0 before ++ from_next p step.1 steps) a.0.1 b.0 (each_append (L S) (forward p step.0 before) (from_next p step.1 steps) (forward_of step.0 before a.0.0 m own) (from_next_of step.1 steps a.0.1 b.0 a.1))),
    steps_of step.1 steps a.0.1 b.0 a.1 b.1,
  )

  -- each moment gives values of the result types alone
  pub record HasOwnAlong (h : History) : Type 0 where
    pub start : HasOwnValues S h.start.kf
    pub steps : Each HasOwnStep h.steps

  settle_round_of : (h : History) → IsHistoryOf p h → HasOwnAlong h → IsHistoryOf p (settle_round p h)
  unfolding settle_round
  settle_round_of h m own = record {
    start = grown_of h.start (from_next p h.start h.steps) m.start own.start (from_next_of h.start h.steps m.start own.start m.steps);
    steps = steps_of h.start h.steps m.start own.start m.steps own.steps;
  }

  -- ---- all rounds: what a moment gives it still gives at the end

  values_grow : (small big : List Literal) → Within small big → HasOwnValues S big → HasOwnValues S small
  unfolding values_at
  values_grow small big within own f ds e i =
      let r = in_filter_mapped (λ l. Rattle.std.specs.Prelude.option_and_then (Rattle.pks_terms.specs.Databases.value_if_at f ds) (Rattle.pks_terms.specs.Databases.told l.relation l.arguments l.positive)) small e i in
      own f ds e (in_filter_map (λ l. Rattle.std.specs.Prelude.option_and_then (Rattle.pks_terms.specs.Databases.value_if_at f ds) (Rattle.pks_terms.specs.Databases.told l.relation l.arguments l.positive)) big r.0 e (within r.0 r.1) r.2)

  grown_within : (d : Five) (news : List Literal) → Within d.kf (grown S d news).kf
  grown_within d news l i = added_in literal_cmp_total literal_cmp_tells d.kf (additions S d ++ news) l (inl i)

  steps_before : (before : Five) (steps : List (Instance × Five)) → Each HasOwnStep (settled_steps p before steps) → Each HasOwnStep steps
  steps_before before [] a = tt
  steps_before before (step ∷ steps) a =
      let news = forward p step.0 before ++ from_next p step.1 steps in
      (values_grow step.1.kf (grown S step.1 news).kf (grown_within step.1 news) a.0, steps_before step.1 steps a.1)

  own_before : (h : History) → HasOwnAlong (settle_round p h) → HasOwnAlong h
  unfolding settle_round
  own_before h own = record {
    start = values_grow h.start.kf (grown S h.start (from_next p h.start h.steps)).kf (grown_within h.start (from_next p h.start h.steps)) own.start;
    steps = steps_before h.start h.steps own.steps;
  }

  settle_rounds_of : (n : ℕ) (h : History) → HasOwnAlong (settle_rounds p n h) → IsHistoryOf p h → IsHistoryOf p (settle_rounds p n h)
  settle_rounds_of zero h own m = m
  settle_rounds_of (suc n) h own m = let before = own_before (settle_rounds p n h) own in settle_round_of (settle_rounds p n h) (settle_rounds_of n h before m) before

  -- ---- the end of the rounds

  ends_own : (d : Five) → IsEnd p d → HasOwnValues S d.kf
  ends_own d e = ranged S d v.signature.values (saturated_end S d e.0) e.1

  module _ (h g : History) (s : Settles p h (At g)) where
    abbrev last : History
    last = settle_rounds p s.count h

    own_end : HasOwnAlong last
    own_end = record { start = ends_own last.start (ends p h g s).0; steps = each_weaker (λ step. IsEnd p step.1) HasOwnStep (λ step e. ends_own step.1 e) last.steps (ends p h g s).1 }

    -- a settled history is of the signature, where the history was
    pub settled_of : IsHistoryOf p h → IsHistoryOf p g
    settled_of m =
        let all = settle_rounds_of s.count h own_end m in
        let tidy : IsHistoryOf p (tidied_history last) = record {
          start = tidied_of S last.start all.start own_end.start;
          steps = each_map IsStep (λ step. (step.0, tidied step.1)) last.steps
              (each_of (λ step. IsStep (step.0, tidied step.1)) last.steps (λ step i. let k = each_in IsStep last.steps step all.steps i in (k.0, tidied_of S step.1 k.1 (each_in HasOwnStep last.steps step own_end.steps i))));
        } in
        subst (IsHistoryOf p) (sym (no_moment p h g s (clashes S last) s.gives).1) tidy
