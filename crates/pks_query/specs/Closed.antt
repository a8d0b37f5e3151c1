-- What holds of the program's closed databases.
use Rattle.pks_terms.specs.Signatures.{Signature, HasValues}
use Rattle.pks_terms.specs.Databases.{Five}
use Rattle.pks_terms.specs.Closure.{IsClosed}

-- closed, by some signature in which each function has a value
pub record AreClosed (d : Five) : Type 0 where
  pub by : Signature
  pub values : HasValues by
  pub closed : IsClosed by d
