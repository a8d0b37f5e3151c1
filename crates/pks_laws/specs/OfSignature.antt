-- What is of a signature beside what is handed in: values, sides, and the moments of a history.
use Rattle.std.specs.Prelude.{ℕ, false, ◌≡◌, List}
use Rattle.pks_terms.specs.Sets.{Each, IsIn}
use Rattle.pks_terms.specs.Syntax.{Literal}
use Rattle.pks_terms.specs.Signatures.{Signature, range_of, is_foreign}
use Rattle.pks_terms.specs.Databases.{Five, values_at}
use Rattle.pks_terms.specs.Problems.{Problem}
use Rattle.pks_terms.specs.Branching.{Choice, BranchOn, CasesOn, Side, AsTrue, AsFalse, Is}
use Rattle.pks_terms.specs.Settling.{History}
use Rattle.pks_terms.specs.Valid.{AreOf}
use Rattle.pks_terms.specs.Handed.{IsStepOf}

-- each value that the literals give of a function is an object of its result type
abbrev pub HasOwnValues : Signature → List Literal → Type 0
HasOwnValues s kf = (f : ℕ) (ds : List ℕ) (e : ℕ) → IsIn e (values_at kf f ds) → is_foreign s f e ≡ false

-- the side is one that the choice has: of a formula true or false, of a term an object that may be its value
abbrev pub IsSideOf : Signature → Choice → Side → Type 0
IsSideOf s (BranchOn c) AsTrue = Unit {0}
IsSideOf s (BranchOn c) AsFalse = Unit {0}
IsSideOf s (CasesOn t) (Is e) = IsIn e (range_of s t)
IsSideOf s c side = ⊥

-- each moment of the history is of the signature, and each instance is one of the problem
pub record IsHistoryOf (p : Problem) (h : History) : Type 0 where
  pub start : AreOf p.signature h.start
  pub steps : Each (λ step. IsStepOf p step.0 × AreOf p.signature step.1) h.steps
