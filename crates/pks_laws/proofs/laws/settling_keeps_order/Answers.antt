use Rattle.pks_laws.proofs.SidesInOrder.{settled_ordered}
use Rattle.pks_laws.proofs.laws.settling_keeps_order.Goals as goal

pub returns : goal.returns
returns c = λ p h g m settles. settled_ordered p h g m settles
