-- What a search keeps of its witnesses.
use Rattle.std.specs.Prelude.{ℕ, Bool, true, false, not, ◌==◌, ◌||◌, ◌-◌, ◌≡◌, List}
use Rattle.std.specs.List.{list_any}
use Rattle.pks_terms.specs.Sets.{Each, IsIn}
use Rattle.pks_terms.specs.Worlds.{World, value_of, all_true_in}
use Rattle.pks_terms.specs.Actions.{Instance}
use Rattle.pks_terms.specs.Problems.{Problem, IsCompatible}
use Rattle.pks_terms.specs.Branching.{Choice, BranchOn, CasesOn, Side, AsTrue, AsFalse, Is}
use Rattle.pks_terms.specs.Settling.{History, At}
use Rattle.pks_terms.specs.Trees.{Acts}
use Rattle.pks_terms.specs.Knowledge.{grounded, after_action}
use Rattle.pks_search_distance.specs.Runs.{MayBeAt}
use Rattle.pks_search_witness.specs.declared.witness.Witness.{Witness}
use Rattle.pks_search_witness.specs.Near.{world_in, is_beyond, IsCounted}

-- the witness is a compatible world, and its bound holds
pub record IsFirst (p : Problem) (x : Witness) : Type 0 where
  pub compatible : IsCompatible p (world_in x)
  pub counted : IsCounted p x

-- the witness may be the present world at the history, and its bound holds
pub record IsNear (p : Problem) (h : History) (x : Witness) : Type 0 where
  pub here : MayBeAt p h (world_in x)
  pub counted : IsCounted p x

-- so it is with each of them at the history after the action
abbrev pub AreNearAfter : Problem → History → Instance → List Witness → Type 0
AreNearAfter p h i xs = (g : History) → Acts p h i (At g) → Each (IsNear p g) xs

-- each of the latter comes from one of the former
abbrev pub ComeFrom : {A : Type 0} → (A → A → Type 0) → List A → List A → Type 0
ComeFrom {A = A} R xs ys = Each (λ y. (x : A) × IsIn x xs × R x y) ys

-- the second is what the first becomes by the action, and its bound holds
pub record Becomes (p : Problem) (i : Instance) (x y : Witness) : Type 0 where
  pub world : world_in y ≡ after_action p (world_in x) (grounded (world_in x) i)
  pub counted : IsCounted p y

-- the goal is more than n actions away from some witness
abbrev pub is_far : List Witness → ℕ → Bool
is_far xs n = list_any (λ x. is_beyond x n) xs

-- the goal is n actions away from some witness or more
abbrev pub is_tight : List Witness → ℕ → Bool
is_tight xs n = (n == 0) || is_far xs (n - 1)

-- the side is so in the world
abbrev pub is_so : World → Choice → Side → Bool
is_so w (BranchOn c) AsTrue = all_true_in w c
is_so w (BranchOn c) AsFalse = not (all_true_in w c)
is_so w (CasesOn t) (Is d) = value_of w t == d
is_so w c side = false

-- the first is on the side, and the second is the same
pub record IsKept (c : Choice) (side : Side) (x y : Witness) : Type 0 where
  pub on : is_so (world_in x) c side ≡ true
  pub world : world_in y ≡ world_in x
  pub needs : y.needs ≡ x.needs
