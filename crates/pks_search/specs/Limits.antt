-- Trees below a limit on cost, to which a search keeps.
use Rattle.std.specs.Prelude.{ℕ, ◌≡◌, ◌≤◌, ◌+◌, ◌⊎◌, ◌++◌, List, Option, Some, None}
use Rattle.pks_terms.specs.Syntax.{Term}
use Rattle.pks_terms.specs.Actions.{Instance}
use Rattle.pks_terms.specs.Problems.{Problem}
use Rattle.pks_terms.specs.Branching.{Choice, Side, choices}
use Rattle.pks_terms.specs.Settling.{History, State, last_moment}
use Rattle.pks_terms.specs.Trees.{Tree, Chain, cost, chain_cost, Acts, Takes, IsBestOf, IsDerivedWithin}
use Rattle.pks_terms.specs.Searching.{IsDerivedBy, IsDerivedAmong, AreCases, ChainBefore}

-- a tree that is derived at the state, no deeper than n, and costs no more than the limit
abbrev pub IsCheapWithin : Problem → State → ℕ → ℕ → Tree → Type 0
IsCheapWithin p x n limit t = IsDerivedWithin p x n t × (cost p t ≤ limit)

-- the best such tree, or none where there is none
abbrev pub IsBestWithin : Problem → State → ℕ → ℕ → Option Tree → Type 0
IsBestWithin p x n limit o = IsBestOf p (IsCheapWithin p x n limit) o

-- such a tree with this choice at its root
abbrev pub IsCheapBy : Problem → History → ℕ → ℕ → Choice → Tree → Type 0
IsCheapBy p h n limit c t = IsDerivedBy p h n c t × (cost p t ≤ limit)

-- with no choice at its root, or one of these
abbrev pub IsCheapAmong : Problem → History → ℕ → ℕ → List Choice → Tree → Type 0
IsCheapAmong p h n limit cs t = IsDerivedAmong p h n cs t × (cost p t ≤ limit)

-- ---- children

-- the best such tree after an action
abbrev pub IsBestAfter : Problem → History → Instance → ℕ → ℕ → Option Tree → Type 0
IsBestAfter p h i n limit o = (y : State) × Acts p h i y × IsBestWithin p y n limit o

-- the best such tree where a side is taken
abbrev pub IsBestTaking : Problem → History → Choice → Side → ℕ → ℕ → Option Tree → Type 0
IsBestTaking p h c side n limit o = (y : State) × Takes p h c side y × IsBestWithin p y n limit o

-- derived cases on these objects, none of which is deeper than n or costs more than the limit
pub record AreCheapCases (p : Problem) (h : History) (x : Term) (n limit : ℕ) (objects : List ℕ) (k : Chain) : Type 0 where
  pub cases : AreCases p h x n objects k
  pub costs : chain_cost p k ≤ limit

-- the best such cases, or none where there are none
abbrev pub AreBestCheapCases : Problem → History → Term → ℕ → ℕ → List ℕ → Option Chain → Type 0
AreBestCheapCases p h x n limit objects None = (k : Chain) → AreCheapCases p h x n limit objects k → ⊥
AreBestCheapCases p h x n limit objects (Some k) = AreCheapCases p h x n limit objects k × ((m : Chain) → AreCheapCases p h x n limit objects m → ChainBefore p k m)

-- ---- choices, one after another

-- what the trees of later choices may cost: less than the tree that was found, or the most where none was
abbrev pub IsNextLimit : Problem → ℕ → Option Tree → ℕ → Type 0
IsNextLimit p most None limit = limit ≡ most
IsNextLimit p most (Some t) limit = limit + 1 ≡ cost p t

-- the best tree with one of these choices at its root, and the limit for later ones
pub record IsFoundAmong (p : Problem) (h : History) (n most : ℕ) (cs : List Choice) (found : Option Tree) (limit : ℕ) : Type 0 where
  pub best : IsBestOf p (IsCheapAmong p h n most cs) found
  pub next : IsNextLimit p most found limit

-- the same of the choices before those that are left
pub record IsFoundBefore (p : Problem) (h : History) (n most : ℕ) (left : List Choice) (found : Option Tree) (limit : ℕ) : Type 0 where
  pub done : List Choice
  pub all : done ++ left ≡ choices p (last_moment h)
  pub among : IsFoundAmong p h n most done found limit

-- ---- depths, one after another

-- each tree within the full depth costs at most the limit, or a tree within this depth does
abbrev pub IsLimitAt : Problem → State → ℕ → ℕ → ℕ → Type 0
IsLimitAt p x n full limit = (t : Tree) → IsDerivedWithin p x full t → (cost p t ≤ limit) ⊎ ((u : Tree) × IsDerivedWithin p x n u × (cost p u ≤ limit))
