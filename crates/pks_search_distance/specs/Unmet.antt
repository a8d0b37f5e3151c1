-- The literals that hold where the goal is met: how many of them are false in a world, and how many actions that takes at least.
use Rattle.std.specs.Prelude.{ℕ, zero, suc, true, ◌≡◌, ◌≤◌, ◌+◌, ◌/◌, max, List, [], ◌∷◌, Option, Some, None, if◌then◌else◌}
use Rattle.pks_terms.specs.Sets.{Each}
use Rattle.pks_terms.specs.Syntax.{Literal}
use Rattle.pks_terms.specs.Worlds.{World, true_in}
use Rattle.pks_terms.specs.Actions.{Instance}
use Rattle.pks_terms.specs.Problems.{Problem}
use Rattle.pks_terms.specs.Knowledge.{after_action}
use Rattle.pks_search_distance.specs.Runs.{MayBeDone, IsGoal}

-- each of the literals is true in every world where the goal is met
abbrev pub AreWanted : Problem → List Literal → Type 0
AreWanted p ls = (w : World) → IsGoal p w → Each (λ l. true_in w l ≡ true) ls

-- how many of the literals are false in the world
abbrev pub unmet : World → List Literal → ℕ
unmet w [] = 0
unmet w (l ∷ ls) = (if true_in w l then 0 else 1) + unmet w ls

-- no action that may be done makes the unmet literals fewer by more than m
abbrev pub MeetsAtMost : Problem → List Literal → ℕ → Type 0
MeetsAtMost p ls m = (w : World) (i : Instance) → MayBeDone p w i → unmet w ls ≤ m + unmet (after_action p w i) ls

-- how many actions meet so many literals, where one meets at most m: their number divided by m, rounded up
abbrev pub fewest : ℕ → ℕ → Option ℕ
fewest m zero = Some 0
fewest zero (suc n) = None
fewest (suc m) (suc n) = Some (n / suc m + 1)

-- the greater of two bounds: none where one of them is none
abbrev pub greater : Option ℕ → Option ℕ → Option ℕ
greater (Some a) (Some b) = Some (max a b)
greater (Some a) None = None
greater None b = None
