-- Databases and histories of a signature that are closed.
use Rattle.std.specs.Prelude.{◌≡◌}
use Rattle.pks_terms.specs.Sets.{Each}
use Rattle.pks_terms.specs.Syntax.{Literal}
use Rattle.pks_terms.specs.Orders.{in_order}
use Rattle.pks_terms.specs.Signatures.{Signature}
use Rattle.pks_terms.specs.Databases.{Five}
use Rattle.pks_terms.specs.Closure.{IsClosed}
use Rattle.pks_terms.specs.Problems.{Problem}
use Rattle.pks_terms.specs.Settling.{History}
use Rattle.pks_terms.specs.Valid.{AreOf}
use Rattle.pks_terms.specs.Handed.{IsStepOf}

-- the sides of an equation stand in order
abbrev pub IsInOrder : Literal → Type 0
IsInOrder l = in_order l.relation l.arguments ≡ l.arguments

-- so in each known literal, formula and group
pub record AreInOrder (d : Five) : Type 0 where
  pub known : Each IsInOrder d.kf
  pub whether : Each (Each IsInOrder) d.kw
  pub groups : Each (Each IsInOrder) d.kx

-- closed databases of the signature, equations in order
pub record IsMomentOf (s : Signature) (d : Five) : Type 0 where
  pub of : AreOf s d
  pub ordered : AreInOrder d
  pub closed : IsClosed s d

-- so at each moment of a history, and each of its instances is one of the problem
pub record AreMomentsOf (p : Problem) (h : History) : Type 0 where
  pub start : IsMomentOf p.signature h.start
  pub steps : Each (λ step. IsStepOf p step.0 × IsMomentOf p.signature step.1) h.steps
