use Rattle.pks_laws.proofs.SearchStates.{settled_history_of}
use Rattle.pks_laws.proofs.laws.settling_gives_moments.Goals as goal

pub returns : goal.returns
returns c = λ p h g v m settles. settled_history_of p v h g m settles
