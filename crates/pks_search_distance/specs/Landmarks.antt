-- Disjunctive landmarks: literals of which one is true wherever the goal is met.
use Rattle.std.specs.Prelude.{ℕ, Bool, true, false, not, ◌&&◌, ◌||◌, nat_lt, ◌≡◌, ◌≤◌, ◌+◌, max, List, [], ◌∷◌, slice_get, if◌then◌else◌}
use Rattle.std.specs.List.{list_any, list_all}
use Rattle.std.specs.Option.{option_map_or}
use Rattle.pks_terms.specs.Sets.{Each}
use Rattle.pks_terms.specs.Syntax.{Literal}
use Rattle.pks_terms.specs.Orders.{literal_eq}
use Rattle.pks_terms.specs.Worlds.{World, true_in}
use Rattle.pks_terms.specs.Actions.{Instance}
use Rattle.pks_terms.specs.Problems.{Problem}
use Rattle.pks_terms.specs.Knowledge.{after_action}
use Rattle.pks_search_distance.specs.Runs.{MayBeDone, IsGoal}
use Rattle.pks_search_distance.specs.Relaxed.{GroundAction}
use Rattle.pks_search_distance.specs.Counted.{is_plain, may_meet}

-- one of the literals is true in the world
abbrev pub is_met : World → List Literal → Bool
is_met w c = list_any (true_in w) c

-- how many of the landmarks are unmet in the world
abbrev pub unmet_marks : World → List (List Literal) → ℕ
unmet_marks w [] = 0
unmet_marks w (c ∷ cs) = (if is_met w c then 0 else 1) + unmet_marks w cs

-- each of them is met in every world where the goal is met
abbrev pub AreLandmarks : Problem → List (List Literal) → Type 0
AreLandmarks p cs = (w : World) → IsGoal p w → Each (λ c. is_met w c ≡ true) cs

-- no action that may be done makes the unmet ones fewer by more than m
abbrev pub ReachAtMost : Problem → List (List Literal) → ℕ → Type 0
ReachAtMost p cs m = (w : World) (i : Instance) → MayBeDone p w i → unmet_marks w cs ≤ m + unmet_marks (after_action p w i) cs

-- the literal is one of these
abbrev pub is_of_mark : Literal → List Literal → Bool
is_of_mark l c = list_any (λ k. literal_eq k l) c

-- the ground action asks for one of the literals
abbrev pub asks : GroundAction → List Literal → Bool
asks x c = list_any (λ l. is_of_mark l c) x.pre

-- the ground action may meet a landmark that is unmet: it asks for none of the literals, and may make one of them true
abbrev pub may_reach : GroundAction → List Literal → Bool
may_reach x c = not (asks x c) && list_any (may_meet x.effects) c

-- how many of the landmarks the ground action may meet
abbrev pub reaches : GroundAction → List (List Literal) → ℕ
reaches x [] = 0
reaches x (c ∷ cs) = (if may_reach x c then 1 else 0) + reaches x cs

-- the most of them that one of the ground actions may meet
abbrev pub most_reached : List GroundAction → List (List Literal) → ℕ
most_reached [] cs = 0
most_reached (x ∷ xs) cs = max (reaches x cs) (most_reached xs cs)

-- one of the ground actions may meet the landmark, and none that may meets m of the others
abbrev pub is_light : List GroundAction → List (List Literal) → List Literal → ℕ → Bool
is_light xs cs c m = list_any (λ x. may_reach x c) xs && list_all (λ x. not (may_reach x c) || nat_lt (reaches x cs) m) xs

-- where the literals are true and the first landmarks are met, the second ones are
abbrev pub AddsMarks : List Literal → List (List Literal) → List (List Literal) → Type 0
AddsMarks ls old new = (w : World) → Each (λ l. true_in w l ≡ true) ls → Each (λ c. is_met w c ≡ true) old → Each (λ c. is_met w c ≡ true) new

-- each literal of the first landmark is one of the second
abbrev pub IsWider : List Literal → List Literal → Type 0
IsWider c d = (l : Literal) → is_of_mark l c ≡ true → is_of_mark l d ≡ true

-- each of the ground actions that may meet the first landmark asks for a literal of the second, and so may not meet that
abbrev pub AreAsking : List GroundAction → List Literal → List Literal → Type 0
AreAsking xs c d = Each (λ x. may_reach x c ≡ true → asks x d ≡ true) xs

-- the ground action has a plain precondition at the place
abbrev pub has_plain : GroundAction → ℕ → Bool
has_plain x k = option_map_or (λ l. is_plain l.relation l.arguments) (slice_get x.pre k) false

-- one of the ground actions that may meet the landmark has no plain precondition at the place
abbrev pub some_lacks : List GroundAction → List Literal → ℕ → Bool
some_lacks xs c k = list_any (λ x. may_reach x c && not (has_plain x k)) xs

-- where the landmark and the first ones are met, the second ones are
abbrev pub AddsBehind : List Literal → List (List Literal) → List (List Literal) → Type 0
AddsBehind c old new = (w : World) → is_met w c ≡ true → Each (λ c. is_met w c ≡ true) old → Each (λ c. is_met w c ≡ true) new
