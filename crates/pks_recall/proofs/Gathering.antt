-- The leaves of a tree are put together from those of its parts.
use Rattle.std.proofs.Common.{◌≡◌, ℕ, List, [], ◌∷◌, ◌++◌, append_assoc, append-nil, refl, sym, ap, ◌∙◌, subst}
use Rattle.pks_terms.specs.Syntax.{Term, Literal}
use Rattle.pks_terms.specs.Actions.{Instance}
use Rattle.pks_terms.specs.Problems.{Problem}
use Rattle.pks_terms.specs.Branching.{BranchOn, CasesOn, AsTrue, AsFalse, Is}
use Rattle.pks_terms.specs.Settling.{History, State, At}
use Rattle.pks_terms.specs.Trees.{Tree, Goal, Impossible, Do, Branch, Cases, Chain, End, More, Acts, Takes}
use Rattle.pks_recall.specs.Walking.{AddsLeaves, AddsLeavesOfEach}

both_behind : {X : Type 0} (old mid new a b : List X) → mid ≡ old ++ a → new ≡ mid ++ b → new ≡ old ++ (a ++ b)
both_behind old mid new a b e f = f ∙ (ap (λ x. x ++ b) e ∙ append_assoc old a b)

module _ (p : Problem) where
  pub goal_added : (x : State) (old new : List State) → new ≡ old ++ x ∷ [] → AddsLeaves p x Goal old new
  goal_added x old new e = record { leaves = x ∷ []; come_to = refl; added = e }

  pub impossible_added : (x : State) (old new : List State) → new ≡ old ++ x ∷ [] → AddsLeaves p x Impossible old new
  impossible_added x old new e = record { leaves = x ∷ []; come_to = refl; added = e }

  module _ (x : State) (h : History) (here : x ≡ At h) where
    pub do_added : (i : Instance) (t : Tree) (y : State) (old new : List State) → Acts p h i y → AddsLeaves p y t old new → AddsLeaves p x (Do i t) old new
    do_added i t y old new a l = subst (λ z. AddsLeaves p z (Do i t) old new) (sym here) (record { leaves = l.leaves; come_to = (y, a, l.come_to); added = l.added })

    pub branch_added : (c : List Literal) (t u : Tree) (y z : State) (old mid new : List State) → Takes p h (BranchOn c) AsTrue y → AddsLeaves p y t old mid → Takes p h (BranchOn c) AsFalse z → AddsLeaves p z u mid new → AddsLeaves p x (Branch c t u) old new
    branch_added c t u y z old mid new a l b m =
        subst (λ z. AddsLeaves p z (Branch c t u) old new) (sym here)
        (record { leaves = l.leaves ++ m.leaves; come_to = (l.leaves, m.leaves, (y, a, l.come_to), (z, b, m.come_to), refl); added = both_behind old mid new l.leaves m.leaves l.added m.added })

    pub cases_added : (s : Term) (k : Chain) (old new : List State) → AddsLeavesOfEach p h s k old new → AddsLeaves p x (Cases s k) old new
    cases_added s k old new l = subst (λ z. AddsLeaves p z (Cases s k) old new) (sym here) (record { leaves = l.leaves; come_to = l.come_to; added = l.added })

  module _ (h : History) (s : Term) where
    pub none_added : (old new : List State) → new ≡ old → AddsLeavesOfEach p h s End old new
    none_added old new e = record { leaves = []; come_to = refl; added = e ∙ sym (append-nil old) }

    pub case_added : (e : ℕ) (t : Tree) (k : Chain) (y : State) (old mid new : List State) → Takes p h (CasesOn s) (Is e) y → AddsLeaves p y t old mid → AddsLeavesOfEach p h s k mid new → AddsLeavesOfEach p h s (More e t k) old new
    case_added e t k y old mid new a l m = record { leaves = l.leaves ++ m.leaves; come_to = (l.leaves, m.leaves, (y, a, l.come_to), m.come_to, refl); added = both_behind old mid new l.leaves m.leaves l.added m.added }
