-- What the table of finds says.
use Rattle.std.specs.Prelude.{ℕ, ◌≤◌, Option, Some}
use Rattle.pks_terms.specs.Problems.{Problem}
use Rattle.pks_terms.specs.Settling.{History, At}
use Rattle.pks_terms.specs.Trees.{Tree, cost, IsDerivedWithin, IsBestOf}

-- a tree that is derived at the history, is no deeper than n, and costs no more than the limit
abbrev pub IsCheapAt : Problem → History → ℕ → ℕ → Tree → Type 0
IsCheapAt p h n limit t = IsDerivedWithin p (At h) n t × (cost p t ≤ limit)

-- the best of these, or none where there is none
abbrev pub IsAnswer : Problem → History → ℕ → ℕ → Option Tree → Type 0
IsAnswer p h n limit o = IsBestOf p (IsCheapAt p h n limit) o

-- the tree is the best of these
abbrev pub IsFound : Problem → History → ℕ → ℕ → Tree → Type 0
IsFound p h n limit t = IsAnswer p h n limit (Some t)
