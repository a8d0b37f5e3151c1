use Rattle.pks_laws.proofs.Histories.{settled_history}
use Rattle.pks_laws.proofs.laws.settling_keeps_truth.Goals as goal

pub returns : goal.returns
returns c = λ p w w' h x t s. settled_history p w w' h x t s
