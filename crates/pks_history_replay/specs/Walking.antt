-- Walking a derived tree from a state on: where a walk stands, and where it may go on.
use Rattle.std.specs.Prelude.{ℕ, ◌≡◌, ◌+◌, ◌≤◌, length}
use Rattle.pks_terms.specs.declared.problem.Problem.{Problem as DProblem}
use Rattle.pks_terms.specs.Sets.{IsIn}
use Rattle.pks_terms.specs.Syntax.{Term}
use Rattle.pks_terms.specs.Closure.{Outcome, Closes}
use Rattle.pks_terms.specs.Problems.{Problem, initial}
use Rattle.pks_terms.specs.Typed.{AllJustified}
use Rattle.pks_terms.specs.Branching.{left, Choice, Side, IsMember}
use Rattle.pks_terms.specs.Settling.{History, last_moment, State, At, Stopped}
use Rattle.pks_terms.specs.Trees.{Tree, Chain, depth, chain_depth, objects_in, Takes, Derives, DerivesEach, start_state}
use Rattle.pks_terms.specs.Moments.{AreMomentsOf}
use Rattle.pks_terms.specs.ValidProblems.{IsValidProblem}
use Rattle.pks_terms.specs.Views.{problem_of}
use Rattle.pks_laws.specs.OfSignature.{IsSideOf}
use Rattle.pks_history_replay.specs.declared.states.State.{State as DState}
use Rattle.pks_history_replay.specs.declared.states.State.TheVariants as state_is

-- where a plan stands
abbrev pub state_of : DState → State
state_of (state_is.At h) = At h
state_of state_is.Stopped = Stopped

-- it stands at a history
abbrev pub IsSomewhere : State → Type 0
IsSomewhere (At h) = Unit {0}
IsSomewhere Stopped = ⊥

-- it stands where plans begin
abbrev pub IsStart : Problem → State → Type 0
IsStart p x = (o : Outcome) × Closes p.signature (initial p) o × (x ≡ start_state o)

-- ---- what is asked

-- a history of the problem, to which so many moments may be added
pub record HasRoom (p : Problem) (n : ℕ) (h : History) : Type 0 where
  pub moments : AreMomentsOf p h
  pub short : length h.steps + n ≤ 16

-- P of the history, where it stands at one
abbrev pub IfSomewhere : (History → Type 0) → State → Type 0
IfSomewhere P (At h) = P h
IfSomewhere P Stopped = Unit {0}

-- the tree is derived at the state, whose history has room for it
pub record IsReady (p : DProblem) (x : State) (t : Tree) : Type 0 where
  pub valid : IsValidProblem p
  pub justified : AllJustified (problem_of p)
  pub derived : Derives (problem_of p) x t
  pub room : IfSomewhere (HasRoom (problem_of p) (depth t)) x

-- the side may be taken at the history, and the tree is derived where it leads
pub record IsSideReady (p : DProblem) (h : History) (c : Choice) (side : Side) (t : Tree) : Type 0 where
  pub valid : IsValidProblem p
  pub moments : AreMomentsOf (problem_of p) h
  pub member : IsMember (last_moment h) c
  pub is_side : IsSideOf (problem_of p).signature c side
  pub next : (y : State) → Takes (problem_of p) h c side y → IsReady p y t

-- the cases are derived at the history, which has room for them, and their objects are left as the value of a known term
pub record AreReady (p : DProblem) (h : History) (x : Term) (k : Chain) : Type 0 where
  pub valid : IsValidProblem p
  pub justified : AllJustified (problem_of p)
  pub known : IsIn x (last_moment h).kv
  pub left : (e : ℕ) → IsIn e (objects_in k) → IsIn e (left (problem_of p).signature (last_moment h) x)
  pub derived : DerivesEach (problem_of p) h x k
  pub room : HasRoom (problem_of p) (chain_depth k) h
