-- The later moments of a history, one by one.
use Rattle.std.proofs.Common.{◌≡◌, ◌<◌, ◌+◌, ◌-◌, ℕ, zero, suc, List, [], ◌∷◌, ◌++◌, map, length, take, Some, refl, sym, ap, ◌∙◌, subst, arith}
use Rattle.std.specs.List.{slice_get}
use Rattle.std.proofs.lemmas.Option.{same_Some}
use Rattle.pks_terms.specs.Databases.{Five}
use Rattle.pks_terms.specs.Actions.{Instance}
use Rattle.pks_terms.specs.Settling.{History, steps_with_last, with_last}

-- so many steps and the next one
pub taken_more : (steps : List (Instance × Five)) (k : ℕ) (i : Instance) (d : Five) → slice_get (map (λ step. step.0) steps) k ≡ Some i → slice_get (map (λ step. step.1) steps) k ≡ Some d → take (k + 1) steps ≡ take k steps ++ (i, d) ∷ []
taken_more [] k i d e f = cc
taken_more (step ∷ steps) zero i d e f = λ j. (same_Some step.0 i e j, same_Some step.1 d f j) ∷ []
taken_more (step ∷ steps) (suc k) i d e f = let next : suc k + 1 ≡ suc (k + 1) = omega arith in ap (λ n. take n (step ∷ steps)) next ∙ ap (λ rest. step ∷ rest) (taken_more steps k i d e f)

-- the last step with other databases
last_replaced : (step : Instance × Five) (steps : List (Instance × Five)) (i : Instance) (d : Five) → slice_get (map (λ step. step.0) (step ∷ steps)) (length steps) ≡ Some i → steps_with_last (step ∷ steps) d ≡ take (length steps) (step ∷ steps) ++ (i, d) ∷ []
last_replaced step [] i d e = λ j. (same_Some step.0 i e j, d) ∷ []
last_replaced step (next ∷ steps) i d e = ap (λ rest. step ∷ rest) (last_replaced next steps i d e)

pub with_last_steps : (h : History) (n : ℕ) (i : Instance) (d : Five) → 0 < n → n ≡ length h.steps → slice_get (map (λ step. step.0) h.steps) (n - 1) ≡ Some i → (with_last h d).steps ≡ take (n - 1) h.steps ++ (i, d) ∷ []
with_last_steps h n i d some count e = go h.steps count e
  where
    go : (steps : List (Instance × Five)) → n ≡ length steps → slice_get (map (λ step. step.0) steps) (n - 1) ≡ Some i → (with_last (record { start = h.start; steps = steps }) d).steps ≡ take (n - 1) steps ++ (i, d) ∷ []
    go [] c f = absurd (omega arith)
    go (step ∷ steps) c f = let k : n - 1 ≡ length steps = omega arith in subst (λ m. steps_with_last (step ∷ steps) d ≡ take m (step ∷ steps) ++ (i, d) ∷ []) (sym k) (last_replaced step steps i d (subst (λ m. slice_get (map (λ step. step.0) (step ∷ steps)) m ≡ Some i) k f))

pub with_last_start : (h : History) (d : Five) → 0 < length h.steps → (with_last h d).start ≡ h.start
with_last_start h d some = go h.steps some
  where
    go : (steps : List (Instance × Five)) → 0 < length steps → (with_last (record { start = h.start; steps = steps }) d).start ≡ h.start
    go [] c = absurd (omega arith)
    go (step ∷ steps) c = refl

pub with_last_alone : (h : History) (d : Five) → length h.steps ≡ 0 → with_last h d ≡ record { start = d; steps = [] }
with_last_alone h d none = go h.steps none
  where
    go : (steps : List (Instance × Five)) → length steps ≡ 0 → with_last (record { start = h.start; steps = steps }) d ≡ record { start = d; steps = [] }
    go [] c = refl
    go (step ∷ steps) c = absurd (omega arith)

-- what stands at a place behind the first one
pub there_later : (d : Five) (ds : List Five) (k : ℕ) (e : Five) → slice_get (d ∷ ds) (k + 1) ≡ Some e → slice_get ds k ≡ Some e
there_later d ds k e h = let next : k + 1 ≡ suc k = omega arith in subst (λ n. slice_get (d ∷ ds) n ≡ Some e) next h
