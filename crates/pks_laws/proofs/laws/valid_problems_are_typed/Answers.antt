use Rattle.pks_laws.proofs.Validity.{valid_typed}
use Rattle.pks_laws.proofs.laws.valid_problems_are_typed.Goals as goal

pub returns : goal.returns
returns c = λ p v. valid_typed p v
