-- What each end of a plan knows of every moment.
use Rattle.std.specs.Prelude.{ℕ, ◌≡◌, ◌+◌, ◌==◌, List, [], ◌∷◌, ◌++◌, Option, Some, None, slice_get, option_map, codes, decimal, if◌then◌else◌}
use Rattle.std.specs.List.{flat_map}
use Rattle.pks_terms.specs.Syntax.{Term}
use Rattle.pks_terms.specs.Databases.{Five}
use Rattle.pks_terms.specs.Closure.{Outcome, Closes}
use Rattle.pks_terms.specs.Worlds.{World, value_of, all_true_in}
use Rattle.pks_terms.specs.Problems.{Problem, initial, IsCompatible}
use Rattle.pks_terms.specs.Branching.{numbered, BranchOn, CasesOn, AsTrue, AsFalse, Is}
use Rattle.pks_terms.specs.Settling.{History, State, At, Stopped}
use Rattle.pks_terms.specs.Aims.{moments}
use Rattle.pks_terms.specs.Trees.{Tree, Goal, Impossible, Do, Branch, Cases, Chain, End, More, IsAt, Acts, Takes, start_state}
use Rattle.pks_terms.specs.Knowledge.{grounded, after_action}
use Rattle.pks_terms.specs.Remembering.{TrueAlong}
use Rattle.pks_terms.specs.Printed.{Text, Names, line, literal_text}

-- from a state on, the tree's leaves are come to at these states, from left to right
abbrev mutual
  pub AreLeaves : Problem → State → Tree → List State → Type 0
  AreLeaves p x Goal xs = xs ≡ x ∷ []
  AreLeaves p x Impossible xs = xs ≡ x ∷ []
  AreLeaves p x (Do i t) xs = IsAt x (λ h. (y : State) × Acts p h i y × AreLeaves p y t xs)
  AreLeaves p x (Branch c t u) xs =
      IsAt x (λ h. (ys zs : List State) × ((y : State) × Takes p h (BranchOn c) AsTrue y × AreLeaves p y t ys)
      × ((z : State) × Takes p h (BranchOn c) AsFalse z × AreLeaves p z u zs) × (xs ≡ ys ++ zs))
  AreLeaves p x (Cases t k) xs = IsAt x (λ h. AreLeavesOfEach p h t k xs)

  -- so it is of the cases of a term, in order
  pub AreLeavesOfEach : Problem → History → Term → Chain → List State → Type 0
  AreLeavesOfEach p h t End xs = xs ≡ []
  AreLeavesOfEach p h t (More e u k) xs =
      (ys zs : List State) × ((y : State) × Takes p h (CasesOn t) (Is e) y × AreLeaves p y u ys) × AreLeavesOfEach p h t k zs × (xs ≡ ys ++ zs)

-- the states at the leaves of a plan, which begins at the closed databases of the problem or at their clash
pub record IsRecalled (p : Problem) (t : Tree) (xs : List State) : Type 0 where
  pub outcome : Outcome
  pub closes : Closes p.signature (initial p) outcome
  pub leaves : AreLeaves p (start_state outcome) t xs

-- ---- the leaf that a run comes to

-- how many leaves a tree has
abbrev mutual
  pub leaf_count : Tree → ℕ
  leaf_count Goal = 1
  leaf_count Impossible = 1
  leaf_count (Do i t) = leaf_count t
  leaf_count (Branch c t u) = leaf_count t + leaf_count u
  leaf_count (Cases x k) = leaf_count_in k

  -- and how many cases have
  pub leaf_count_in : Chain → ℕ
  leaf_count_in End = 0
  leaf_count_in (More e t k) = leaf_count t + leaf_count_in k

-- the leaf that the run in a world comes to, counted from 0 and from left to right; none where a value has no case
abbrev mutual
  pub leaf_of : Problem → Tree → World → Option ℕ
  leaf_of p Goal w = Some 0
  leaf_of p Impossible w = Some 0
  leaf_of p (Do i t) w = leaf_of p t (after_action p w (grounded w i))
  leaf_of p (Branch c t u) w = if all_true_in w c then leaf_of p t w else option_map (λ n. leaf_count t + n) (leaf_of p u w)
  leaf_of p (Cases x k) w = leaf_of_case p k (value_of w x) w

  -- by the case of the value
  pub leaf_of_case : Problem → Chain → ℕ → World → Option ℕ
  leaf_of_case p End e w = None
  leaf_of_case p (More o t k) e w = if o == e then leaf_of p t w else option_map (λ n. leaf_count t + n) (leaf_of_case p k e w)

-- what is recalled at a leaf was so at its moments, in every compatible world whose run comes to that leaf
abbrev pub IsTruePast : Problem → Tree → List State → Type 0
IsTruePast p t xs =
    (w : World) → IsCompatible p w → (n : ℕ) → leaf_of p t w ≡ Some n → (h : History) → slice_get xs n ≡ Some (At h) → TrueAlong p w h.start h.steps

-- ---- what is printed

-- a moment: its number, and its known literals in order, each on a line
abbrev pub moment_text : Names → ℕ × Five → Text
moment_text names m = line (codes "moment " ++ decimal m.0) ++ flat_map (λ l. line (literal_text names l)) m.1.kf

-- each moment of a history, the first having the number 0; or that there is none
abbrev pub state_text : Names → State → Text
state_text names (At h) = flat_map (moment_text names) (numbered 0 (moments h))
state_text names Stopped = line (codes "impossible")

-- a leaf: its number, and what is known there
abbrev pub leaf_text : Names → ℕ × State → Text
leaf_text names x = line (codes "leaf " ++ decimal x.0) ++ state_text names x.1

-- the leaves in order, counted from 1
unfoldable pub recall_text : Names → List State → Text
recall_text names xs = flat_map (leaf_text names) (numbered 1 xs)
