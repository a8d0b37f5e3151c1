-- The levels of a relaxed world: what may be so after some actions, where what may be true, what may be false and what values a place may have only grow.
use Rattle.std.specs.Prelude.{ℕ, Bool, true, ◌≡◌, ◌≤◌, ◌+◌, List, map, Option, Some, None}
use Rattle.pks_terms.specs.Sets.{Each, IsIn}
use Rattle.pks_terms.specs.Worlds.{World}
use Rattle.pks_terms.specs.Actions.{Target, Effect, Instance, effect_at, fires, written_truth, written_value}
use Rattle.pks_terms.specs.Problems.{Problem, schema_of}
use Rattle.pks_search_distance.specs.Runs.{MayBeDone, Reaches}

-- which atoms over objects may be true and which may be false, and which values a place may have
pub record Chances : Type 0 where
  pub truth : Bool → ℕ → List ℕ → Bool
  pub values : ℕ → List ℕ → List ℕ

-- all that is so in the world may be so
pub record Allows (m : Chances) (v : World) : Type 0 where
  pub truth : (p : ℕ) (ds : List ℕ) → m.truth (v.truth p ds) p ds ≡ true
  pub values : (f : ℕ) (ds : List ℕ) → IsIn (v.value f ds) (m.values f ds)

-- all that may be so by the first may be so by the second
pub record Grows (m n : Chances) : Type 0 where
  pub truth : (b : Bool) (p : ℕ) (ds : List ℕ) → m.truth b p ds ≡ true → n.truth b p ds ≡ true
  pub values : (f : ℕ) (ds : List ℕ) (d : ℕ) → IsIn d (m.values f ds) → IsIn d (n.values f ds)

-- what the target writes in the world may be so
pub record Has (m : Chances) (v : World) (t : Target) : Type 0 where
  pub truth : (p : ℕ) (ds : List ℕ) (b : Bool) → written_truth v p ds t ≡ Some b → m.truth b p ds ≡ true
  pub values : (f : ℕ) (ds : List ℕ) (d : ℕ) → written_value v f ds t ≡ Some d → IsIn d (m.values f ds)

-- what each effect writes that fires in the world may be so
abbrev pub HasAll : Chances → World → List Effect → Type 0
HasAll m v es = Each (λ e. fires v e ≡ true → Has m v e.target) es

-- the second level is after the first: it has all that the first one has, and what the effects of an action write that may be done in a world that the first one allows
pub record IsNext (p : Problem) (m n : Chances) : Type 0 where
  pub grows : Grows m n
  pub writes : (v : World) (i : Instance) → Allows m v → MayBeDone p v i → HasAll n v (map (effect_at i.arguments) (schema_of p i.action).effects)

-- the number is at most the other one; where there is none, nothing is
abbrev pub IsAtMost : Option ℕ → ℕ → Type 0
IsAtMost (Some n) k = n ≤ k
IsAtMost None k = ⊥

-- a bound on the actions that the goal is away from the world: no run of fewer comes to it, and where there is no bound no run at all
abbrev pub IsBound : Problem → World → Option ℕ → Type 0
IsBound p w o = (k : ℕ) → Reaches p w k → IsAtMost o k

-- levels one after another, from one on that allows the world
pub record AreLevels (p : Problem) (w : World) (level : ℕ → Chances) : Type 0 where
  pub first : Allows (level 0) w
  pub next : (k : ℕ) → IsNext p (level k) (level (k + 1))
