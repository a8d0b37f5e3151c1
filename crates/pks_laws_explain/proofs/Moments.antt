-- The moments of a history along a path: the last of them, and the actions and sides that stand there.
use Rattle.std.proofs.Common.{◌≡◌, ◌≤◌, ℕ, zero, suc, List, [], ◌∷◌, ◌++◌, map, slice_get, Some, refl, sym, ap, ◌∙◌, arith}
use Rattle.pks_terms.specs.Databases.{Five}
use Rattle.pks_terms.specs.Closure.{tidied}
use Rattle.pks_terms.specs.Actions.{Instance}
use Rattle.pks_terms.specs.Branching.{Choice, Side}
use Rattle.pks_terms.specs.Problems.{Problem}
use Rattle.pks_terms.specs.Settling.{History, last_of, with_last, steps_with_last, settled_steps, settle_round, settle_rounds, tidied_history}
use Rattle.pks_terms.specs.Proofs.{Went, Took, Path, deeds, final_moment, takings}
use Rattle.pks_laws_explain.specs.Shown.{AreShown, AreShownAlong, AreSteps, IsHistoryShown}
use Rattle.pks_laws_explain.proofs.Gathered.{got_within}
use Rattle.pks_laws_explain.proofs.Tidied.{tidied_shown}

-- ---- where a path stands

-- the moment to which the path leads from a moment
abbrev pub moment_at : ℕ → Path → ℕ
moment_at m [] = m
moment_at m (Went i ∷ rest) = moment_at (suc m) rest
moment_at m (Took c side ∷ rest) = moment_at m rest

moment_later : (m : ℕ) (front : Path) → moment_at (suc m) front ≡ suc (moment_at m front)
moment_later m [] = refl
moment_later m (Went i ∷ rest) = moment_later (suc m) rest
moment_later m (Took c side ∷ rest) = moment_later m rest

pub moment_is_final : (path : Path) → moment_at 0 path ≡ final_moment path
moment_is_final [] = refl
moment_is_final (Went i ∷ rest) = moment_later 0 rest ∙ ap suc (moment_is_final rest)
moment_is_final (Took c side ∷ rest) = moment_is_final rest

pub moment_within : (front rest : Path) → moment_at 0 front ≤ final_moment (front ++ rest)
moment_within [] rest = omega arith
moment_within (Went i ∷ front) rest = let less = moment_within front rest in let later : moment_at 1 front ≡ suc (moment_at 0 front) = moment_later 0 front in omega (arith, less, later)
moment_within (Took c side ∷ front) rest = moment_within front rest

pub moment_went : (m : ℕ) (front : Path) (i : Instance) → moment_at m (front ++ Went i ∷ []) ≡ suc (moment_at m front)
moment_went m [] i = refl
moment_went m (Went k ∷ front) i = moment_went (suc m) front i
moment_went m (Took c side ∷ front) i = moment_went m front i

pub moment_took : (m : ℕ) (front : Path) (c : Choice) (side : Side) → moment_at m (front ++ Took c side ∷ []) ≡ moment_at m front
moment_took m [] c side = refl
moment_took m (Went k ∷ front) c side = moment_took (suc m) front c side
moment_took m (Took b other ∷ front) c side = moment_took m front c side

-- the action that follows it
pub deed_there : (front rest : Path) (i : Instance) → slice_get (deeds (front ++ Went i ∷ rest)) (moment_at 0 front) ≡ Some i
deed_there [] rest i = refl
deed_there (Went k ∷ front) rest i = ap (slice_get (deeds (Went k ∷ (front ++ Went i ∷ rest)))) (moment_later 0 front) ∙ deed_there front rest i
deed_there (Took c side ∷ front) rest i = deed_there front rest i

-- the side that is taken there
pub side_there : (m : ℕ) (front rest : Path) (c : Choice) (side : Side) → (n : ℕ) × (slice_get (takings m (front ++ Took c side ∷ rest)) n ≡ Some (record { moment = moment_at m front; choice = c; side = side }))
side_there m [] rest c side = (0, refl)
side_there m (Went k ∷ front) rest c side = side_there (suc m) front rest c side
side_there m (Took b other ∷ front) rest c side = let r = side_there m front rest c side in (suc r.0, r.1)

-- ---- where a history ends

-- the moment of the last databases, the first being at the moment m
abbrev pub end_moment : ℕ → List (Instance × Five) → ℕ
end_moment m [] = m
end_moment m (step ∷ steps) = end_moment (suc m) steps

pub end_pushed : (m : ℕ) (steps : List (Instance × Five)) (step : Instance × Five) → end_moment m (steps ++ step ∷ []) ≡ suc (end_moment m steps)
end_pushed m [] step = refl
end_pushed m (first ∷ steps) step = end_pushed (suc m) steps step

end_with_last : (m : ℕ) (steps : List (Instance × Five)) (e : Five) → end_moment m (steps_with_last steps e) ≡ end_moment m steps
end_with_last m [] e = refl
end_with_last m (step ∷ []) e = refl
end_with_last m (step ∷ next ∷ rest) e = end_with_last (suc m) (next ∷ rest) e

pub end_replaced : (h : History) (e : Five) → end_moment 0 (with_last h e).steps ≡ end_moment 0 h.steps
end_replaced h e =
    elim h.steps as (λ steps. h.steps ≡ steps → end_moment 0 (elim steps as (λ _. History) [ [] ↦ record { start = e; steps = [] } | step ∷ rest ↦ record h { steps = steps_with_last h.steps e } ]).steps ≡ end_moment 0 h.steps) [
      | [] ↦ λ q. ap (end_moment 0) (sym q)
      | step ∷ rest ↦ λ q. end_with_last 0 h.steps e
    ] refl

end_settled : (p : Problem) (m : ℕ) (before : Five) (steps : List (Instance × Five)) → end_moment m (settled_steps p before steps) ≡ end_moment m steps
end_settled p m before [] = refl
end_settled p m before (step ∷ steps) = end_settled p (suc m) step.1 steps

pub end_rounds : (p : Problem) (n : ℕ) (h : History) → end_moment 0 (settle_rounds p n h).steps ≡ end_moment 0 h.steps
unfolding settle_round
end_rounds p zero h = refl
end_rounds p (suc n) h = end_settled p 0 (settle_rounds p n h).start (settle_rounds p n h).steps ∙ end_rounds p n h

pub end_tidied : (m : ℕ) (steps : List (Instance × Five)) → end_moment m (map (λ step. (step.0, tidied step.1)) steps) ≡ end_moment m steps
end_tidied m [] = refl
end_tidied m (step ∷ steps) = end_tidied (suc m) steps

module _ (p : Problem) (path : Path) where
  -- ---- the last databases

  pub last_shown : (m : ℕ) (d : Five) (steps : List (Instance × Five)) → AreShownAlong p path m d steps → AreShown p path (end_moment m steps) (last_of d steps)
  last_shown m d [] s = s
  last_shown m d (step ∷ steps) s = last_shown (suc m) step.1 steps s.1

  pub pushed_shown : (m : ℕ) (d : Five) (steps : List (Instance × Five)) (i : Instance) (e : Five) → AreShownAlong p path m d steps → AreShown p path (suc (end_moment m steps)) e → AreShownAlong p path m d (steps ++ (i, e) ∷ [])
  pushed_shown m d [] i e s a = (s, a)
  pushed_shown m d (step ∷ steps) i e s a = (s.0, pushed_shown (suc m) step.1 steps i e s.1 a)

  pub pushed_steps : (m : ℕ) (steps : List (Instance × Five)) (i : Instance) (e : Five) → AreSteps path m steps → slice_get (deeds path) (end_moment m steps) ≡ Some i → AreSteps path m (steps ++ (i, e) ∷ [])
  pushed_steps m [] i e on there = (there, tt)
  pushed_steps m (step ∷ steps) i e on there = (on.0, pushed_steps (suc m) steps i e on.1 there)

  -- ---- other databases at the end

  replaced_along : (m : ℕ) (d e : Five) (steps : List (Instance × Five)) → AreShownAlong p path m d steps → AreShown p path (end_moment m steps) e → AreShownAlong p path m d (steps_with_last steps e)
  replaced_along m d e [] s a = s
  replaced_along m d e (step ∷ []) s a = (s.0, a)
  replaced_along m d e (step ∷ next ∷ rest) s a = (s.0, replaced_along (suc m) step.1 e (next ∷ rest) s.1 a)

  replaced_steps : (m : ℕ) (e : Five) (steps : List (Instance × Five)) → AreSteps path m steps → AreSteps path m (steps_with_last steps e)
  replaced_steps m e [] on = on
  replaced_steps m e (step ∷ []) on = on
  replaced_steps m e (step ∷ next ∷ rest) on = (on.0, replaced_steps (suc m) e (next ∷ rest) on.1)

  pub replaced_shown : (h : History) (e : Five) → IsHistoryShown p path h → AreShown p path (end_moment 0 h.steps) e → IsHistoryShown p path (with_last h e)
  replaced_shown h e s a =
      elim h.steps as (λ steps. AreShown p path (end_moment 0 steps) e → IsHistoryShown p path (elim steps [ [] ↦ record { start = e; steps = [] } | step ∷ rest ↦ record h { steps = steps_with_last h.steps e } ])) [
        | [] ↦ λ b. (tt, b)
        | step ∷ rest ↦ λ b. (replaced_steps 0 e h.steps s.0, replaced_along 0 h.start e h.steps s.1 a)
      ] a

  -- ---- all moments tidied

  tidied_along : (m : ℕ) → m ≤ final_moment path → (d : Five) (steps : List (Instance × Five)) → AreSteps path m steps → AreShownAlong p path m d steps → AreShownAlong p path m (tidied d) (map (λ step. (step.0, tidied step.1)) steps)
  tidied_along m within d [] on s = tidied_shown p path m within d s
  tidied_along m within d (step ∷ steps) on s = (tidied_shown p path m within d s.0, tidied_along (suc m) (got_within (deeds path) m step.0 on.0) step.1 steps on.1 s.1)

  tidied_steps : (m : ℕ) (steps : List (Instance × Five)) → AreSteps path m steps → AreSteps path m (map (λ step. (step.0, tidied step.1)) steps)
  tidied_steps m [] on = on
  tidied_steps m (step ∷ steps) on = (on.0, tidied_steps (suc m) steps on.1)

  zero_within : 0 ≤ final_moment path
  zero_within = omega arith

  pub tidied_history_shown : (h : History) → IsHistoryShown p path h → IsHistoryShown p path (tidied_history h)
  tidied_history_shown h s = (tidied_steps 0 h.steps s.0, tidied_along 0 zero_within h.start h.steps s.0 s.1)
