use Rattle.pks_laws.proofs.BelongingSteps.{choice_of}
use Rattle.pks_laws.proofs.laws.choices_are_of_signature.Goals as goal

pub returns : goal.returns
returns c = λ p d i m chosen. choice_of p d i m chosen
