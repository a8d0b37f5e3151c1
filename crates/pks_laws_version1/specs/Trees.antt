-- Plans by the rules of the first version: each query of the goal is answered in the last databases, and the better tree is the less deep.
use Rattle.std.specs.Prelude.{ℕ, Bool, true, ◌≤◌, ◌≡◌, ◌⊎◌, Option, Some, None}
use Rattle.std.specs.List.{list_all}
use Rattle.std.specs.declared.cmp.Ordering.TheVariants.{Less}
use Rattle.pks_terms.specs.Sets.{IsIn}
use Rattle.pks_terms.specs.Syntax.{Term}
use Rattle.pks_terms.specs.Closure.{Outcome, Next, Clash}
use Rattle.pks_terms.specs.Queries.{answers}
use Rattle.pks_terms.specs.Actions.{Instance}
use Rattle.pks_terms.specs.Problems.{Problem, schema_of, initial}
use Rattle.pks_terms.specs.Branching.{is_undecided, Choice, BranchOn, CasesOn, Side, AsTrue, AsFalse, Is}
use Rattle.pks_terms.specs.Settling.{History, last_moment, with_last, State, Stopped}
use Rattle.pks_terms.specs.Trees.{Tree, Goal, Impossible, Do, Branch, Cases, Chain, End, More, depth, objects_in, tree_cmp, IsAt, after_step, start_state}
use Rattle.pks_terms.specs.Versions.{query_in}
use Rattle.pks_laws_version1.specs.LookingUp.{without_functions}
use Rattle.pks_laws_version1.specs.Closing.{Closes}
use Rattle.pks_laws_version1.specs.Choosing.{Progress, instances, left, may_split, Assumes}
use Rattle.pks_laws_version1.specs.Settling.{Settles}

-- every goal query is answered in the last databases
abbrev pub met : Problem → History → Bool
met p h = list_all (λ x. answers (without_functions p.signature) (last_moment h) (query_in x)) p.goal

-- the state after an action
pub record Acts (p : Problem) (h : History) (i : Instance) (x : State) : Type 0 where
  pub outcome : Outcome
  pub progress : Progress p.signature (last_moment h) (schema_of p i.action) i outcome
  pub gives : x ≡ after_step h i outcome

-- with what was assumed at its last moment the history is settled
abbrev pub SettlesAfter : Problem → History → Outcome → State → Type 0
SettlesAfter p h (Next d) x = Settles p (with_last h d) x
SettlesAfter p h (Clash l) x = x ≡ Stopped

-- the state after a side is assumed and the history settled
pub record Takes (p : Problem) (h : History) (c : Choice) (side : Side) (x : State) : Type 0 where
  pub outcome : Outcome
  pub assumed : Assumes p.signature (last_moment h) c side outcome
  pub settled : SettlesAfter p h outcome x

-- the tree is derived at the state; each case of a chain is derived on its object
abbrev mutual
  pub Derives : Problem → State → Tree → Type 0
  Derives p x Goal = IsAt x (λ h. met p h ≡ true)
  Derives p x Impossible = x ≡ Stopped
  Derives p x (Do i t) = IsAt x (λ h. IsIn i (instances p (last_moment h)) × ((y : State) × Acts p h i y × Derives p y t))
  Derives p x (Branch c t u) =
      IsAt x (λ h. IsIn c (last_moment h).kw × (is_undecided (without_functions p.signature) (last_moment h) c ≡ true)
      × ((y : State) × Takes p h (BranchOn c) AsTrue y × Derives p y t) × ((y : State) × Takes p h (BranchOn c) AsFalse y × Derives p y u))
  Derives p x (Cases t k) =
      IsAt x (λ h. IsIn t (last_moment h).kv × (may_split p.signature (last_moment h) t ≡ true)
      × (objects_in k ≡ left p.signature (last_moment h) t) × DerivesEach p h t k)

  pub DerivesEach : Problem → History → Term → Chain → Type 0
  DerivesEach p h t End = Unit {0}
  DerivesEach p h t (More e u k) = ((y : State) × Takes p h (CasesOn t) (Is e) y × Derives p y u) × DerivesEach p h t k

-- the tree is derived from the start
pub record IsPlan (p : Problem) (t : Tree) : Type 0 where
  pub outcome : Outcome
  pub closes : Closes p.signature (initial p) outcome
  pub derives : Derives p (start_state outcome) t

-- the first tree is the second or better: less deep, or as deep and earlier by roots and children
abbrev pub IsBefore : Tree → Tree → Type 0
IsBefore t u = (t ≡ u) ⊎ (tree_cmp depth t u ≡ Less)

-- the best plan of at most this depth: one that is better than all others, or none where there is none
abbrev pub IsBest : Problem → ℕ → Option Tree → Type 0
IsBest p n None = (t : Tree) → IsPlan p t → depth t ≤ n → ⊥
IsBest p n (Some t) = IsPlan p t × (depth t ≤ n) × ((u : Tree) → IsPlan p u → depth u ≤ n → IsBefore t u)
