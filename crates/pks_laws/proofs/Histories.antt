-- Histories that are true of two worlds: how they grow, how their last moment changes, and how they are settled.
use Rattle.std.proofs.Common.{◌≡◌, ℕ, zero, suc, cond, List, [], ◌∷◌, ◌++◌, map, refl, sym, ap, ◌∙◌, subst}
use Rattle.pks_terms.specs.Worlds.{World}
use Rattle.pks_terms.specs.Databases.{Five}
use Rattle.pks_terms.specs.Meaning.{IsTrueIn, IsTrueOf}
use Rattle.pks_terms.specs.Closure.{tidied}
use Rattle.pks_terms.specs.Actions.{Instance}
use Rattle.pks_terms.specs.Problems.{Problem}
use Rattle.pks_terms.specs.Settling.{History, last_of, last_moment, pushed, steps_with_last, with_last, settled_steps, settle_round, settle_rounds, State, At, Stopped, tidied_history, Settles}
use Rattle.pks_laws.proofs.Tidying.{tidied_true_in, tidied_true}
use Rattle.pks_terms.specs.Remembering.{deeds_of, Agree, AgreeAlong, TrueAlong, Both, SeenAlong, IsTrueHistory}
use Rattle.pks_terms.specs.Knowledge.{grounded, after_action}
use Rattle.pks_laws.proofs.Doing.{present}
use Rattle.pks_laws.proofs.Settled.{worlds_along, settle_rounds_true, settled_fine}

module _ (p : Problem) where
  last_true : (w : World) (d : Five) (steps : List (Instance × Five)) → TrueAlong p w d steps → IsTrueIn p.signature (present p w (deeds_of steps)) (last_of d steps)
  last_true w d [] t = t
  last_true w d (step ∷ steps) t = last_true (after_action p w (grounded w step.0)) step.1 steps t.1

  last_agree : (w w' : World) (d : Five) (steps : List (Instance × Five)) → AgreeAlong p w w' d steps → Agree (present p w (deeds_of steps)) (present p w' (deeds_of steps)) (last_of d steps)
  last_agree w w' d [] a = a
  last_agree w w' d (step ∷ steps) a = last_agree (after_action p w (grounded w step.0)) (after_action p w' (grounded w' step.0)) step.1 steps a.1

  -- the last moment is true of the present worlds
  pub last_both : (w w' : World) (h : History) → Both p w w' h → IsTrueOf p.signature (present p w (deeds_of h.steps)) (present p w' (deeds_of h.steps)) (last_moment h)
  last_both w w' h b =
      let a = last_agree w w' h.start h.steps b.agree in
      record { first = last_true w h.start h.steps b.along; second = last_true w' h.start h.steps b.along'; whether = a.0; values = a.1 }

  -- ---- one more moment

  true_pushed : (w : World) (d : Five) (steps : List (Instance × Five)) (i : Instance) (e : Five) → TrueAlong p w d steps → IsTrueIn p.signature (after_action p (present p w (deeds_of steps)) (grounded (present p w (deeds_of steps)) i)) e → TrueAlong p w d (steps ++ (i, e) ∷ [])
  true_pushed w d [] i e t m = (t, m)
  true_pushed w d (step ∷ steps) i e t m = (t.0, true_pushed (after_action p w (grounded w step.0)) step.1 steps i e t.1 m)

  agree_pushed : (w w' : World) (d : Five) (steps : List (Instance × Five)) (i : Instance) (e : Five) → AgreeAlong p w w' d steps → Agree (after_action p (present p w (deeds_of steps)) (grounded (present p w (deeds_of steps)) i)) (after_action p (present p w' (deeds_of steps)) (grounded (present p w' (deeds_of steps)) i)) e → AgreeAlong p w w' d (steps ++ (i, e) ∷ [])
  agree_pushed w w' d [] i e a b = (a, b)
  agree_pushed w w' d (step ∷ steps) i e a b = (a.0, agree_pushed (after_action p w (grounded w step.0)) (after_action p w' (grounded w' step.0)) step.1 steps i e a.1 b)

  pub both_pushed : (w w' : World) (h : History) (i : Instance) (e : Five) → Both p w w' h
      → IsTrueOf p.signature (after_action p (present p w (deeds_of h.steps)) (grounded (present p w (deeds_of h.steps)) i)) (after_action p (present p w' (deeds_of h.steps)) (grounded (present p w' (deeds_of h.steps)) i)) e → Both p w w' (pushed h i e)
  both_pushed w w' h i e b m = record {
    along = true_pushed w h.start h.steps i e b.along m.first;
    along' = true_pushed w' h.start h.steps i e b.along' m.second;
    agree = agree_pushed w w' h.start h.steps i e b.agree (m.whether, m.values);
  }

  pub deeds_pushed : (steps : List (Instance × Five)) (i : Instance) (e : Five) → deeds_of (steps ++ (i, e) ∷ []) ≡ deeds_of steps ++ i ∷ []
  deeds_pushed [] i e = refl
  deeds_pushed (step ∷ steps) i e = λ j. step.0 ∷ deeds_pushed steps i e j

  -- ---- another last moment

  true_replaced : (w : World) (d : Five) (step : Instance × Five) (steps : List (Instance × Five)) (e : Five) → TrueAlong p w d (step ∷ steps) → IsTrueIn p.signature (present p w (deeds_of (step ∷ steps))) e → TrueAlong p w d (steps_with_last (step ∷ steps) e)
  true_replaced w d step [] e t m = (t.0, m)
  true_replaced w d step (next ∷ rest) e t m = (t.0, true_replaced (after_action p w (grounded w step.0)) step.1 next rest e t.1 m)

  agree_replaced : (w w' : World) (d : Five) (step : Instance × Five) (steps : List (Instance × Five)) (e : Five) → AgreeAlong p w w' d (step ∷ steps) → Agree (present p w (deeds_of (step ∷ steps))) (present p w' (deeds_of (step ∷ steps))) e → AgreeAlong p w w' d (steps_with_last (step ∷ steps) e)
  agree_replaced w w' d step [] e a b = (a.0, b)
  agree_replaced w w' d step (next ∷ rest) e a b = (a.0, agree_replaced (after_action p w (grounded w step.0)) (after_action p w' (grounded w' step.0)) step.1 next rest e a.1 b)

  deeds_replaced : (step : Instance × Five) (steps : List (Instance × Five)) (e : Five) → deeds_of (steps_with_last (step ∷ steps) e) ≡ deeds_of (step ∷ steps)
  deeds_replaced step [] e = refl
  deeds_replaced step (next ∷ rest) e = λ j. step.0 ∷ deeds_replaced next rest e j

  pub both_replaced : (w w' : World) (h : History) (e : Five) → Both p w w' h → IsTrueOf p.signature (present p w (deeds_of h.steps)) (present p w' (deeds_of h.steps)) e → Both p w w' (with_last h e)
  both_replaced w w' h e b m = go h.start h.steps b.along b.along' b.agree m
    where
      go : (start : Five) (steps : List (Instance × Five)) → TrueAlong p w start steps → TrueAlong p w' start steps → AgreeAlong p w w' start steps → IsTrueOf p.signature (present p w (deeds_of steps)) (present p w' (deeds_of steps)) e
          → Both p w w' (with_last (record { start = start; steps = steps }) e)
      go start [] t t' a m = record { along = m.first; along' = m.second; agree = (m.whether, m.values) }
      go start (step ∷ steps) t t' a m = record {
        along = true_replaced w start step steps e t m.first;
        along' = true_replaced w' start step steps e t' m.second;
        agree = agree_replaced w w' start step steps e a (m.whether, m.values);
      }

  pub deeds_with_last : (start : Five) (steps : List (Instance × Five)) (e : Five) → deeds_of (with_last (record { start = start; steps = steps }) e).steps ≡ deeds_of steps
  deeds_with_last start [] e = refl
  deeds_with_last start (step ∷ steps) e = deeds_replaced step steps e

  -- ---- settled

  agree_steps : (w w' : World) (before d e : Five) (steps : List (Instance × Five)) → Agree w w' e → AgreeAlong p w w' d steps → AgreeAlong p w w' e (settled_steps p before steps)
  agree_steps w w' before d e [] k a = k
  agree_steps w w' before d e (step ∷ steps) k a = (k, agree_steps (after_action p w (grounded w step.0)) (after_action p w' (grounded w' step.0)) step.1 step.1 _ steps (head_agree (after_action p w (grounded w step.0)) (after_action p w' (grounded w' step.0)) step.1 steps a.1) a.1)
    where
      head_agree : (w w' : World) (d : Five) (steps : List (Instance × Five)) → AgreeAlong p w w' d steps → Agree w w' d
      head_agree w w' d [] a = a
      head_agree w w' d (step ∷ steps) a = a.0

  agree_round : (w w' : World) (h : History) → AgreeAlong p w w' h.start h.steps → AgreeAlong p w w' (settle_round p h).start (settle_round p h).steps
  unfolding settle_round
  agree_round w w' h a = agree_steps w w' h.start h.start _ h.steps (head h.start h.steps a) a
    where
      head : (d : Five) (steps : List (Instance × Five)) → AgreeAlong p w w' d steps → Agree w w' d
      head d [] a = a
      head d (step ∷ steps) a = a.0

  agree_rounds : (n : ℕ) (w w' : World) (h : History) → AgreeAlong p w w' h.start h.steps → AgreeAlong p w w' (settle_rounds p n h).start (settle_rounds p n h).steps
  agree_rounds zero w w' h a = a
  agree_rounds (suc n) w w' h a = agree_round w w' (settle_rounds p n h) (agree_rounds n w w' h a)

  deeds_steps : (before : Five) (steps : List (Instance × Five)) → deeds_of (settled_steps p before steps) ≡ deeds_of steps
  deeds_steps before [] = refl
  deeds_steps before (step ∷ steps) = λ j. step.0 ∷ deeds_steps step.1 steps j

  deeds_rounds : (n : ℕ) (h : History) → deeds_of (settle_rounds p n h).steps ≡ deeds_of h.steps
  unfolding settle_round
  deeds_rounds zero h = refl
  deeds_rounds (suc n) h = deeds_steps (settle_rounds p n h).start (settle_rounds p n h).steps ∙ deeds_rounds n h

  both_rounds : (n : ℕ) (w w' : World) (h : History) → Both p w w' h → Both p w w' (settle_rounds p n h)
  both_rounds n w w' h b =
      let one = settle_rounds_true p n w h (worlds_along p w h.start h.steps b.along) b.along in
      let two = settle_rounds_true p n w' h (worlds_along p w' h.start h.steps b.along') b.along' in
      record { along = one.1; along' = two.1; agree = agree_rounds n w w' h b.agree }

  -- ---- tidied

  abbrev tidy_steps : List (Instance × Five) → List (Instance × Five)
  tidy_steps steps = map (λ (step : Instance × Five). let r : Instance × Five = (step.0, tidied step.1) in r) steps

  true_tidied : (w : World) (d : Five) (steps : List (Instance × Five)) → TrueAlong p w d steps → TrueAlong p w (tidied d) (tidy_steps steps)
  true_tidied w d [] t = tidied_true_in w d t
  true_tidied w d (step ∷ steps) t = (tidied_true_in w d t.0, true_tidied (after_action p w (grounded w step.0)) step.1 steps t.1)

  agree_one : (w w' : World) (d : Five) → IsTrueIn p.signature w d → IsTrueIn p.signature w' d → Agree w w' d → Agree w w' (tidied d)
  agree_one w w' d m m' a = let t = tidied_true w w' d (record { first = m; second = m'; whether = a.0; values = a.1 }) in (t.whether, t.values)

  agree_tidied : (w w' : World) (d : Five) (steps : List (Instance × Five)) → TrueAlong p w d steps → TrueAlong p w' d steps → AgreeAlong p w w' d steps → AgreeAlong p w w' (tidied d) (tidy_steps steps)
  agree_tidied w w' d [] t t' a = agree_one w w' d t t' a
  agree_tidied w w' d (step ∷ steps) t t' a = (agree_one w w' d t.0 t'.0 a.0, agree_tidied (after_action p w (grounded w step.0)) (after_action p w' (grounded w' step.0)) step.1 steps t.1 t'.1 a.1)

  deeds_tidied : (steps : List (Instance × Five)) → deeds_of (tidy_steps steps) ≡ deeds_of steps
  deeds_tidied [] = refl
  deeds_tidied (step ∷ steps) = λ j. step.0 ∷ deeds_tidied steps j

  pub both_tidied : (w w' : World) (h : History) → Both p w w' h → Both p w w' (tidied_history h)
  both_tidied w w' h b = record {
    along = true_tidied w h.start h.steps b.along;
    along' = true_tidied w' h.start h.steps b.along';
    agree = agree_tidied w w' h.start h.steps b.along b.along' b.agree;
  }

  -- the fifth law: settling doesn't clash, and the settled history is true of both worlds
  pub settled_both : (w w' : World) (h : History) (x : State) → Both p w w' h → (s : Settles p h x) → (x ≡ At (tidied_history (settle_rounds p s.count h))) × Both p w w' (tidied_history (settle_rounds p s.count h))
  settled_both w w' h x b s = (
    s.gives ∙ ap (λ c. cond c Stopped (At (tidied_history (settle_rounds p s.count h)))) (settled_fine p s.count w h (worlds_along p w h.start h.steps b.along) b.along),
    both_tidied w w' (settle_rounds p s.count h) (both_rounds s.count w w' h b),
  )

  pub deeds_settled : (n : ℕ) (h : History) → deeds_of (tidied_history (settle_rounds p n h)).steps ≡ deeds_of h.steps
  deeds_settled n h = deeds_tidied (settle_rounds p n h).steps ∙ deeds_rounds n h

  -- with the same seen at each step
  pub settled_history : (w w' : World) (h : History) (x : State) → IsTrueHistory p w w' h → Settles p h x → (g : History) × (x ≡ At g) × IsTrueHistory p w w' g
  settled_history w w' h x t s =
      let b = settled_both w w' h x t.both s in
      (tidied_history (settle_rounds p s.count h), b.0, record { both = b.1; seen = subst (λ (is : List Instance). SeenAlong p w w' is) (sym (deeds_settled s.count h)) t.seen })
