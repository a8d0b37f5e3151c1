use Rattle.pks_laws.proofs.BelongingSteps.{initial_of}
use Rattle.pks_laws.proofs.laws.start_is_of_signature.Goals as goal

pub returns : goal.returns
returns c = λ p v. initial_of p v
