-- From unmet literals to a bound.
use Rattle.std.proofs.Common.{◌≡◌, ◌≤◌, ◌<◌, ◌+◌, ◌*◌, ◌/◌, ℕ, zero, suc, true, cond, max, List, [], ◌∷◌, length, Option, Some, None, sym, subst, arith}
use Rattle.std.proofs.lemmas.Nat.{div_below}
use Rattle.pks_terms.specs.Sets.{Each}
use Rattle.pks_terms.specs.Syntax.{Literal}
use Rattle.pks_terms.specs.Worlds.{World, true_in}
use Rattle.pks_terms.specs.Actions.{Instance}
use Rattle.pks_terms.specs.Problems.{Problem}
use Rattle.pks_terms.specs.Knowledge.{after_action, after_actions}
use Rattle.pks_search_distance.specs.Runs.{MayBeDone, IsRun, IsGoal, Reaches}
use Rattle.pks_search_distance.specs.Levels.{IsBound, IsAtMost}
use Rattle.pks_search_distance.specs.Unmet.{AreWanted, unmet, MeetsAtMost, fewest, greater}
use Rattle.pks_search_distance.specs.Landmarks.{is_met, unmet_marks, AreLandmarks, ReachAtMost}

none_unmet : (w : World) (ls : List Literal) → Each (λ l. true_in w l ≡ true) ls → unmet w ls ≤ 0
none_unmet w [] k = omega arith
none_unmet w (l ∷ ls) k =
    let rest : unmet w ls ≤ 0 = none_unmet w ls k.1 in
    subst (λ b. cond b 0 1 + unmet w ls ≤ 0) (sym k.0) (omega (arith, rest))

times_more : (a b m : ℕ) → a ≤ b → a * m ≤ b * m
times_more zero b m h = omega arith
times_more (suc a) (suc b) m h =
    let less : a ≤ b = omega (arith, h) in
    let rest = times_more a b m less in
    omega (arith, rest)
times_more (suc a) zero m h = absurd (omega (arith, h))

-- what is counted in a world, of which no action that may be done takes more than m
module _ (p : Problem) (count : World → ℕ) (m : ℕ) (few : (w : World) (i : Instance) → MayBeDone p w i → count w ≤ m + count (after_action p w i)) where
  run_counts : (w : World) (is : List Instance) → IsRun p w is → count w ≤ length is * m + count (after_actions p w is)
  run_counts w [] r = omega arith
  run_counts w (i ∷ is) r =
      let one : count w ≤ m + count (after_action p w i) = few w i r.0 in
      let rest : count (after_action p w i) ≤ length is * m + count (after_actions p (after_action p w i) is) = run_counts (after_action p w i) is r.1 in
      omega (arith, one, rest)

  -- where nothing is left at the goal, a run there has for each m an action
  pub reaching_counts : ((w : World) → IsGoal p w → count w ≤ 0) → (w : World) (k : ℕ) → Reaches p w k → count w ≤ k * m
  reaching_counts none w k r =
      let met : count (after_actions p w r.actions) ≤ 0 = none (after_actions p w r.actions) r.goal in
      let run = run_counts w r.actions r.run in
      let short = times_more (length r.actions) k m r.short in
      omega (arith, met, run, short)

  pub fewest_counts : ((w : World) → IsGoal p w → count w ≤ 0) → (w : World) → IsBound p w (fewest m (count w))
  fewest_counts none w k r = at_most m (count w) k (reaching_counts none w k r)
    where
      at_most : (m n k : ℕ) → n ≤ k * m → IsAtMost (fewest m n) k
      at_most m zero k h = omega arith
      at_most zero (suc n) k h = omega (arith, h)
      at_most (suc m) (suc n) k h = let q : n / suc m < k = div_below n (suc m) k (omega arith) (omega (arith, h)) in omega (arith, q)

module _ (p : Problem) (ls : List Literal) (m : ℕ) (few : MeetsAtMost p ls m) where
  -- a run to the goal has for each m unmet literals an action
  pub reaching_meets : AreWanted p ls → (w : World) (k : ℕ) → Reaches p w k → unmet w ls ≤ k * m
  reaching_meets wanted = reaching_counts p (λ w. unmet w ls) m few (λ w g. none_unmet w ls (wanted w g))

  pub fewest_bounds : AreWanted p ls → (w : World) → IsBound p w (fewest m (unmet w ls))
  fewest_bounds wanted = fewest_counts p (λ w. unmet w ls) m few (λ w g. none_unmet w ls (wanted w g))

none_left : (w : World) (cs : List (List Literal)) → Each (λ c. is_met w c ≡ true) cs → unmet_marks w cs ≤ 0
none_left w [] k = omega arith
none_left w (c ∷ cs) k =
    let rest : unmet_marks w cs ≤ 0 = none_left w cs k.1 in
    subst (λ b. cond b 0 1 + unmet_marks w cs ≤ 0) (sym k.0) (omega (arith, rest))

-- the same of landmarks
pub fewest_reached : (p : Problem) (cs : List (List Literal)) (m : ℕ) → ReachAtMost p cs m → AreLandmarks p cs → (w : World) → IsBound p w (fewest m (unmet_marks w cs))
fewest_reached p cs m few are = fewest_counts p (λ w. unmet_marks w cs) m few (λ w g. none_left w cs (are w g))

pub greater_bounds : (p : Problem) (w : World) (a b : Option ℕ) → IsBound p w a → IsBound p w b → IsBound p w (greater a b)
greater_bounds p w (Some a) (Some b) f g k r =
    let one : a ≤ k = f k r in
    let other : b ≤ k = g k r in
    omega (arith, one, other)
greater_bounds p w (Some a) None f g k r = g k r
greater_bounds p w None b f g k r = f k r
