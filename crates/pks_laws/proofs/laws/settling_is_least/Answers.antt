use Rattle.pks_laws.proofs.LeastFamily.{settled_least}
use Rattle.pks_laws.proofs.laws.settling_is_least.Goals as goal

pub returns : goal.returns
returns c = λ p h big n inhabited within closed. settled_least p inhabited n h big within closed
