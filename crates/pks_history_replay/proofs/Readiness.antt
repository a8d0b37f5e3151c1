-- Where the walk goes on: each part of a derived tree is derived at the state that its step leads to, and histories stay short.
use Rattle.std.proofs.Common.{◌≡◌, ◌≤◌, ◌<◌, ℕ, max, List, [], length, inl, inr, refl, sym, subst, arith}
use Rattle.std.proofs.Math.Nat.{le-max_left, le-max_right}
use Rattle.pks_terms.specs.declared.problem.Problem.{Problem as DProblem}
use Rattle.pks_terms.specs.Sets.{IsIn}
use Rattle.pks_terms.specs.Syntax.{Term, Literal}
use Rattle.pks_terms.specs.Actions.{Instance}
use Rattle.pks_terms.specs.Problems.{Problem, initial}
use Rattle.pks_terms.specs.Closure.{Outcome, Next, Clash, Closes}
use Rattle.pks_terms.specs.Answers.{unjustified}
use Rattle.pks_terms.specs.Branching.{instances, Choice, BranchOn, CasesOn, Side, AsTrue, AsFalse, Is, IsMember, left}
use Rattle.pks_terms.specs.Settling.{History, last_moment, State, At, Stopped}
use Rattle.pks_terms.specs.Trees.{Tree, Do, Branch, Cases, Chain, More, depth, chain_depth, IsAt, Acts, Takes, Derives, start_state, IsPlan}
use Rattle.pks_terms.specs.ValidProblems.{IsValidProblem}
use Rattle.pks_terms.specs.Views.{problem_of}
use Rattle.pks_laws.specs.OfSignature.{IsSideOf}
use Rattle.pks_laws.proofs.Accepting.{all_justified}
use Rattle.pks_laws.proofs.SearchStates.{start_of, acts_of, takes_of}
use Rattle.pks_laws.proofs.TreesOf.{left_is_side}
use Rattle.pks_laws.proofs.Unique.{closes_one, acts_one, takes_one}
use Rattle.pks_history_replay.specs.Walking.{IsSomewhere, IsStart, HasRoom, IfSomewhere, IsReady, IsSideReady, AreReady}
use Rattle.pks_history_replay.proofs.Lengths.{acts_longer, takes_as_long}

-- what asks for a history has one
pub somewhere : (x : State) (P : History → Type 0) → IsAt x P → IsSomewhere x
somewhere (At h) P k = tt
somewhere Stopped P k = k

pub at_it : (p : DProblem) (x : State) (h : History) (t : Tree) → x ≡ At h → IsReady p x t → IsReady p (At h) t
at_it p x h t e r = subst (λ y. IsReady p y t) e r

module _ (p : DProblem) (h : History) where
  abbrev P : Problem
  P = problem_of p

  -- ---- after an action

  module _ (i : Instance) (t : Tree) (r : IsReady p (At h) (Do i t)) where
    pub do_chosen : IsIn i (instances P (last_moment h))
    do_chosen = r.derived.0

    pub do_short : length h.steps < 16
    do_short = let short = r.room.short in omega (arith, short)

    pub do_next : (y : State) → Acts P h i y → IsReady p y t
    do_next y a = record { valid = r.valid; justified = r.justified; derived = subst (λ z. Derives P z t) (acts_one P h i r.derived.1.0 y r.derived.1.1 a) r.derived.1.2; room = room y a }
      where
        room : (y : State) → Acts P h i y → IfSomewhere (HasRoom P (depth t)) y
        room (At g) a =
            let short = r.room.short in
            let longer = acts_longer P h g i a in
            record { moments = acts_of P r.valid.says h g i r.room.moments do_chosen a; short = omega (arith, short, longer) }
        room Stopped a = tt

  -- ---- where a side is taken

  -- a tree that is no deeper than there is room for
  side_next : (c : Choice) (side : Side) (n : ℕ) (t : Tree) → IsValidProblem p → HasRoom P n h → depth t ≤ n → IsMember (last_moment h) c → IsSideOf P.signature c side → (y : State) → Takes P h c side y → IfSomewhere (HasRoom P (depth t)) y
  side_next c side n t v room few member is_side (At g) k =
      let short = room.short in
      let same = takes_as_long P h g c side k in
      record { moments = takes_of P v.says h g c side room.moments member is_side k; short = omega (arith, short, same, few) }
  side_next c side n t v room few member is_side Stopped k = tt

  module _ (c : List Literal) (t u : Tree) (r : IsReady p (At h) (Branch c t u)) where
    pub branch_member : IsIn c (last_moment h).kw
    branch_member = r.derived.0

    pub branch_room : HasRoom P (max (depth t) (depth u)) h
    branch_room = let short = r.room.short in record { moments = r.room.moments; short = omega (arith, short) }

    pub branch_yes : (y : State) → Takes P h (BranchOn c) AsTrue y → IsReady p y t
    branch_yes y k = record {
      valid = r.valid;
      justified = r.justified;
      derived = subst (λ z. Derives P z t) (takes_one P h (BranchOn c) AsTrue r.derived.2.0 y r.derived.2.1 k) r.derived.2.2;
      room = side_next (BranchOn c) AsTrue (max (depth t) (depth u)) t r.valid branch_room (le-max_left (depth t) (depth u)) branch_member tt y k;
    }

    pub branch_no : (y : State) → Takes P h (BranchOn c) AsFalse y → IsReady p y u
    branch_no y k = record {
      valid = r.valid;
      justified = r.justified;
      derived = subst (λ z. Derives P z u) (takes_one P h (BranchOn c) AsFalse r.derived.3.0 y r.derived.3.1 k) r.derived.3.2;
      room = side_next (BranchOn c) AsFalse (max (depth t) (depth u)) u r.valid branch_room (le-max_right (depth t) (depth u)) branch_member tt y k;
    }

  pub yes_ready : (c : List Literal) (t u : Tree) → IsReady p (At h) (Branch c t u) → IsSideReady p h (BranchOn c) AsTrue t
  yes_ready c t u r = record { valid = r.valid; moments = r.room.moments; member = branch_member c t u r; is_side = tt; next = branch_yes c t u r }

  pub no_ready : (c : List Literal) (t u : Tree) → IsReady p (At h) (Branch c t u) → IsSideReady p h (BranchOn c) AsFalse u
  no_ready c t u r = record { valid = r.valid; moments = r.room.moments; member = branch_member c t u r; is_side = tt; next = branch_no c t u r }

  pub cases_ready : (x : Term) (k : Chain) → IsReady p (At h) (Cases x k) → AreReady p h x k
  cases_ready x k r =
      let short = r.room.short in
      record {
        valid = r.valid;
        justified = r.justified;
        known = r.derived.0;
        left = λ e i. subst (IsIn e) r.derived.2 i;
        derived = r.derived.3;
        room = record { moments = r.room.moments; short = omega (arith, short) };
      }

  module _ (x : Term) (e : ℕ) (t : Tree) (k : Chain) (r : AreReady p h x (More e t k)) where
    pub case_side : IsSideOf P.signature (CasesOn x) (Is e)
    case_side = left_is_side P.signature (last_moment h) x e (r.left e (inl refl))

    pub case_first : (y : State) → Takes P h (CasesOn x) (Is e) y → IsReady p y t
    case_first y q = record {
      valid = r.valid;
      justified = r.justified;
      derived = subst (λ z. Derives P z t) (takes_one P h (CasesOn x) (Is e) r.derived.0.0 y r.derived.0.1 q) r.derived.0.2;
      room = side_next (CasesOn x) (Is e) (max (depth t) (chain_depth k)) t r.valid r.room (le-max_left (depth t) (chain_depth k)) r.known case_side y q;
    }

    pub case_rest : AreReady p h x k
    case_rest =
        let short = r.room.short in
        let few = le-max_right (depth t) (chain_depth k) in
        record { valid = r.valid; justified = r.justified; known = r.known; left = λ d i. r.left d (inr i); derived = r.derived.1; room = record { moments = r.room.moments; short = omega (arith, short, few) } }

  pub case_ready : (x : Term) (e : ℕ) (t : Tree) (k : Chain) → AreReady p h x (More e t k) → IsSideReady p h (CasesOn x) (Is e) t
  case_ready x e t k r = record { valid = r.valid; moments = r.room.moments; member = r.known; is_side = case_side x e t k r; next = case_first x e t k r }

-- ---- the start

-- a plan of depth at most 16 can be walked from where plans begin
pub start_ready : (p : DProblem) (x : State) (t : Tree) → IsValidProblem p → unjustified (problem_of p) ≡ [] → IsPlan (problem_of p) t → depth t ≤ 16 → IsStart (problem_of p) x → IsReady p x t
start_ready p x t v none plan few (o, closes, e) =
    subst (λ y. IsReady p y t) (sym e)
    (record {
      valid = v;
      justified = all_justified (problem_of p) none;
      derived = subst (λ q. Derives (problem_of p) (start_state q) t) (closes_one (problem_of p).signature (initial (problem_of p)) plan.outcome o plan.closes closes) plan.derives;
      room = room o closes;
    })
  where
    room : (o : Outcome) → Closes (problem_of p).signature (initial (problem_of p)) o → IfSomewhere (HasRoom (problem_of p) (depth t)) (start_state o)
    room (Next d) c = record { moments = start_of (problem_of p) v.says d c; short = omega (arith, few) }
    room (Clash l) c = tt
