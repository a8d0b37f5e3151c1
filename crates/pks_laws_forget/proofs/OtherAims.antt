-- What doesn't depend on the aims: a problem with other aims acts, settles and costs the same.
use Rattle.std.proofs.Common.{◌≡◌, ◌+◌, ◌++◌, ℕ, zero, suc, cond, max, List, [], ◌∷◌, refl, sym, ap, ◌∙◌}
use Rattle.pks_terms.specs.Sets.{IsIn}
use Rattle.pks_terms.specs.Syntax.{Term}
use Rattle.pks_terms.specs.Actions.{Instance}
use Rattle.pks_terms.specs.Aims.{met}
use Rattle.pks_terms.specs.Branching.{instances, Choice, BranchOn, CasesOn, Side, AsTrue, AsFalse, Is}
use Rattle.pks_terms.specs.Closure.{Outcome, Next, Clash}
use Rattle.pks_terms.specs.Databases.{Five}
use Rattle.pks_terms.specs.Problems.{Aim, Problem, schema_of}
use Rattle.pks_terms.specs.Settling.{History, last_moment, with_last, forward, grown, from_next, settled_steps, settle_round, settle_rounds, State, At, Stopped, clashes, tidied_history, Settles}
use Rattle.pks_terms.specs.Trees.{Tree, Goal, Impossible, Do, Branch, Cases, Chain, End, More, cost, chain_cost, Acts, SettlesAfter, Takes, Derives, DerivesEach}
use Rattle.pks_laws_forget.specs.Fewer.{with_aims}

abbrev Steps : Type 0
Steps = List (Instance × Five)

module _ (p : Problem) (aims : List Aim) where
  abbrev Other : Problem
  Other = with_aims p aims

  -- ---- settling

  from_same : (d : Five) (xs : Steps) → from_next Other d xs ≡ from_next p d xs
  from_same d [] = refl
  from_same d (x ∷ xs) = refl

  steps_same : (d : Five) (xs : Steps) → settled_steps Other d xs ≡ settled_steps p d xs
  steps_same d [] = refl
  steps_same d (x ∷ xs) = λ j. (x.0, grown p.signature x.1 (forward p x.0 d ++ from_same x.1 xs j)) ∷ steps_same x.1 xs j

  round_same : (h : History) → settle_round Other h ≡ settle_round p h
  unfolding settle_round
  round_same h = λ j. record { start = grown p.signature h.start (from_same h.start h.steps j); steps = steps_same h.start h.steps j }

  rounds_same : (n : ℕ) (h : History) → settle_rounds Other n h ≡ settle_rounds p n h
  rounds_same zero h = refl
  rounds_same (suc n) h = round_same (settle_rounds Other n h) ∙ ap (settle_round p) (rounds_same n h)

  pub settles_other : (h : History) (x : State) → Settles p h x → Settles Other h x
  settles_other h x s = record {
    count = s.count;
    last = round_same (settle_rounds Other s.count h) ∙ ap (settle_round p) (rounds_same s.count h) ∙ s.last ∙ sym (rounds_same s.count h);
    gives = s.gives ∙ ap (λ (e : History). cond (clashes p.signature e) Stopped (At (tidied_history e))) (sym (rounds_same s.count h));
  }

  -- ---- actions and sides

  acts_other : (h : History) (i : Instance) (x : State) → Acts p h i x → Acts Other h i x
  acts_other h i x a = record { outcome = a.outcome; progress = a.progress; gives = a.gives }

  settled_other : (h : History) (x : State) (o : Outcome) → SettlesAfter p h o x → SettlesAfter Other h o x
  settled_other h x (Next d) s = settles_other (with_last h d) x s
  settled_other h x (Clash l) s = s

  takes_other : (h : History) (c : Choice) (side : Side) (x : State) → Takes p h c side x → Takes Other h c side x
  takes_other h c side x t = record { outcome = t.outcome; assumed = t.assumed; settled = settled_other h x t.outcome t.settled }

  chosen_other : (i : Instance) (d : Five) → IsIn i (instances p d) → IsIn i (instances Other d)
  unfolding instances
  chosen_other i d k = k

  -- ---- costs

  mutual
    cost_same : (t : Tree) → cost Other t ≡ cost p t
    cost_same Goal = refl
    cost_same Impossible = refl
    cost_same (Do i t) = ap (λ n. (schema_of p i.action).cost + n) (cost_same t)
    cost_same (Branch c t u) = λ j. max (cost_same t j) (cost_same u j) + 1
    cost_same (Cases x k) = ap (λ n. n + 1) (chain_same k)

    chain_same : (k : Chain) → chain_cost Other k ≡ chain_cost p k
    chain_same End = refl
    chain_same (More e t k) = λ j. max (cost_same t j) (chain_same k j)

  pub costs_same : cost Other ≡ cost p
  costs_same = λ j t. cost_same t j

-- P, where it isn't a clash
abbrev pub IfAt : State → (History → Type 0) → Type 0
IfAt (At h) P = P h
IfAt Stopped P = Unit {0}

-- a property of histories that actions and sides keep, and of which the one goal is met where the other is
pub record Carries (p : Problem) (aims : List Aim) (P : History → Type 0) : Type 0 where
  pub same_goal : (h : History) → P h → met p h ≡ met (with_aims p aims) h
  pub acts : (h : History) (i : Instance) (x : State) → P h → Acts p h i x → IfAt x P
  pub takes : (h : History) (c : Choice) (side : Side) (x : State) → P h → Takes p h c side x → IfAt x P

module _ (p : Problem) (aims : List Aim) (P : History → Type 0) (carries : Carries p aims P) where
  mutual
    pub trees_other : (t : Tree) (x : State) → IfAt x P → Derives p x t → Derives (with_aims p aims) x t
    trees_other Goal (At h) k d = sym (carries.same_goal h k) ∙ d
    trees_other Impossible (At h) k d = d
    trees_other (Do i t) (At h) k d =
        (chosen_other p aims i (last_moment h) d.0, (d.1.0, acts_other p aims h i d.1.0 d.1.1, trees_other t d.1.0 (carries.acts h i d.1.0 k d.1.1) d.1.2))
    trees_other (Branch c t u) (At h) k d = (
      d.0,
      d.1,
      (d.2.0, takes_other p aims h (BranchOn c) AsTrue d.2.0 d.2.1, trees_other t d.2.0 (carries.takes h (BranchOn c) AsTrue d.2.0 k d.2.1) d.2.2),
      (d.3.0, takes_other p aims h (BranchOn c) AsFalse d.3.0 d.3.1, trees_other u d.3.0 (carries.takes h (BranchOn c) AsFalse d.3.0 k d.3.1) d.3.2),
    )
    trees_other (Cases t c) (At h) k d = (d.0, d.1, d.2, chain_other c h t k d.3)
    trees_other Impossible Stopped k d = d
    trees_other Goal Stopped k d = d
    trees_other (Do i t) Stopped k d = d
    trees_other (Branch c t u) Stopped k d = d
    trees_other (Cases t c) Stopped k d = d

    chain_other : (c : Chain) (h : History) (t : Term) → P h → DerivesEach p h t c → DerivesEach (with_aims p aims) h t c
    chain_other End h t k d = tt
    chain_other (More e u c) h t k d =
        ((d.0.0, takes_other p aims h (CasesOn t) (Is e) d.0.0 d.0.1, trees_other u d.0.0 (carries.takes h (CasesOn t) (Is e) d.0.0 k d.0.1) d.0.2), chain_other c h t k d.1)

-- the other way round: the problem is the other one with its own aims again
module _ (p : Problem) (aims : List Aim) (P : History → Type 0) (carries : Carries p aims P) where
  carries_back : Carries (with_aims p aims) p.goal P
  carries_back = record {
    same_goal = λ h k. sym (carries.same_goal h k);
    acts = λ h i x k a. carries.acts h i x k (acts_other (with_aims p aims) p.goal h i x a);
    takes = λ h c side x k t. carries.takes h c side x k (takes_other (with_aims p aims) p.goal h c side x t);
  }

  pub trees_back : (t : Tree) (x : State) → IfAt x P → Derives (with_aims p aims) x t → Derives p x t
  trees_back = trees_other (with_aims p aims) p.goal P carries_back
