-- Settling leaves a history as long as it was, and an action makes it longer by one.
use Rattle.std.proofs.Common.{◌≡◌, ◌+◌, ℕ, zero, suc, Bool, true, false, List, [], ◌∷◌, length, refl, sym, ap, ◌∙◌, true≢false, if◌then◌else◌}
use Rattle.std.proofs.lemmas.List.{length-append, length-map}
use Rattle.pks_terms.specs.Databases.{Five}
use Rattle.pks_terms.specs.Closure.{Outcome, Next, Clash, tidied}
use Rattle.pks_terms.specs.Actions.{Instance}
use Rattle.pks_terms.specs.Problems.{Problem}
use Rattle.pks_terms.specs.Branching.{Choice, Side}
use Rattle.pks_terms.specs.Settling.{History, At, Stopped, with_last, steps_with_last, settled_steps, settle_round, settle_rounds, tidied_history, clashes, Settles}
use Rattle.pks_terms.specs.Trees.{after_step, Acts, SettlesAfter, Takes}
use Rattle.pks_laws.proofs.BelongingHistories.{is_clash, history_or}

steps_as_long : (steps : List (Instance × Five)) (d : Five) → length (steps_with_last steps d) ≡ length steps
steps_as_long [] d = refl
steps_as_long (step ∷ []) d = refl
steps_as_long (step ∷ next ∷ rest) d = ap suc (steps_as_long (next ∷ rest) d)

with_last_as_long : (h : History) (d : Five) → length (with_last h d).steps ≡ length h.steps
with_last_as_long h d = go h.start h.steps
  where
    go : (start : Five) (steps : List (Instance × Five)) → length (with_last (record { start = start; steps = steps }) d).steps ≡ length steps
    go start [] = refl
    go start (step ∷ rest) = steps_as_long (step ∷ rest) d

settled_as_long : (p : Problem) (before : Five) (steps : List (Instance × Five)) → length (settled_steps p before steps) ≡ length steps
settled_as_long p before [] = refl
settled_as_long p before (step ∷ steps) = ap suc (settled_as_long p step.1 steps)

round_as_long : (p : Problem) (h : History) → length (settle_round p h).steps ≡ length h.steps
unfolding settle_round
round_as_long p h = settled_as_long p h.start h.steps

rounds_as_long : (p : Problem) (n : ℕ) (h : History) → length (settle_rounds p n h).steps ≡ length h.steps
rounds_as_long p zero h = refl
rounds_as_long p (suc n) h = round_as_long p (settle_rounds p n h) ∙ rounds_as_long p n h

settles_as_long : (p : Problem) (h g : History) → Settles p h (At g) → length g.steps ≡ length h.steps
settles_as_long p h g s = go (clashes p.signature (settle_rounds p s.count h)) s.gives
  where
    go : (b : Bool) → At g ≡ (if b then Stopped else At (tidied_history (settle_rounds p s.count h))) → length g.steps ≡ length h.steps
    go true e = absurd (true≢false (sym (ap is_clash e)))
    go false e = ap (λ x. length x.steps) (ap (history_or g) e) ∙ length-map (settle_rounds p s.count h).steps (λ (step : Instance × Five). (step.0, tidied step.1)) ∙ rounds_as_long p s.count h

-- an action makes it longer by one
pub acts_longer : (p : Problem) (h g : History) (i : Instance) → Acts p h i (At g) → length g.steps ≡ length h.steps + 1
acts_longer p h g i a = go a.outcome a.gives
  where
    go : (o : Outcome) → At g ≡ after_step h i o → length g.steps ≡ length h.steps + 1
    go (Next d) e = ap (λ x. length x.steps) (ap (history_or g) e) ∙ length-append h.steps ((i, d) ∷ [])
    go (Clash l) e = absurd (true≢false (sym (ap is_clash e)))

-- a side leaves it as long as it was
pub takes_as_long : (p : Problem) (h g : History) (c : Choice) (side : Side) → Takes p h c side (At g) → length g.steps ≡ length h.steps
takes_as_long p h g c side t = go t.outcome t.settled
  where
    go : (o : Outcome) → SettlesAfter p h o (At g) → length g.steps ≡ length h.steps
    go (Next d) s = settles_as_long p (with_last h d) g s ∙ with_last_as_long h d
    go (Clash l) e = absurd (true≢false (sym (ap is_clash e)))
