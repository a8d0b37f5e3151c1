use Rattle.pks_laws.proofs.StepLaws.{side_true}
use Rattle.pks_laws.proofs.laws.sides_keep_truth.Goals as goal

pub returns : goal.returns
returns c = λ s w w' d c side o m member so a. side_true s w w' d c side o m member so a
