-- Steps of a history that bring nothing new: what the rules between their two moments give is known at these.
use Rattle.std.specs.Prelude.{ℕ, ◌≤◌, List, [], ◌∷◌, length}
use Rattle.pks_terms.specs.Databases.{Five}
use Rattle.pks_terms.specs.Actions.{Instance}
use Rattle.pks_terms.specs.Problems.{Problem}
use Rattle.pks_terms.specs.Settling.{History, forward, backward}
use Rattle.pks_terms.specs.Saturated.{Within}

-- each of the two moments knows all that the other gives it
abbrev pub IsReadStep : Problem → Five → Instance → Five → Type 0
IsReadStep p before i after = Within (forward p i before) after.kf × Within (backward p i before after) before.kf

-- so at each step from d on but the last n
abbrev pub AreRead : Problem → ℕ → Five → List (Instance × Five) → Type 0
AreRead p n d [] = Unit {0}
AreRead p n d (x ∷ xs) = (n ≤ length xs → IsReadStep p d x.0 x.1) × AreRead p n x.1 xs

-- so at each step of the history but the last n
abbrev pub IsReadBut : Problem → ℕ → History → Type 0
IsReadBut p n h = AreRead p n h.start h.steps
