-- Databases whose equations are between terms of one type.
use Rattle.pks_terms.specs.Sets.{Each}
use Rattle.pks_terms.specs.Signatures.{Signature}
use Rattle.pks_terms.specs.Databases.{Five}
use Rattle.pks_terms.specs.Versions.{IsOneTyped}
use Rattle.pks_terms.specs.Settling.{History}
use Rattle.pks_terms.specs.Problems.{Problem}
use Rattle.pks_terms.specs.Valid.{AreOf}
use Rattle.pks_terms.specs.Handed.{IsStepOf}

-- ground databases of the signature, in which the sides of each equation have one type
pub record HasOneTyped (s : Signature) (d : Five) : Type 0 where
  pub of : AreOf s d
  pub known : Each (IsOneTyped s) d.kf
  pub whether : Each (Each (IsOneTyped s)) d.kw
  pub groups : Each (Each (IsOneTyped s)) d.kx

-- so at each moment
pub record IsOneTypedAlong (p : Problem) (h : History) : Type 0 where
  pub start : HasOneTyped p.signature h.start
  pub steps : Each (λ step. IsStepOf p step.0 × HasOneTyped p.signature step.1) h.steps
