use Rattle.pks_laws.proofs.StepLaws.{action_true}
use Rattle.pks_laws.proofs.laws.actions_keep_truth.Goals as goal

pub returns : goal.returns
returns c = λ p w w' d i o typed m chosen justified seen progress. action_true p w w' d i o typed m chosen justified seen progress
