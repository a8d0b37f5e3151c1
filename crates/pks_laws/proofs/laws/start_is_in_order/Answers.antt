use Rattle.pks_laws.proofs.SidesInOrder.{initial_ordered}
use Rattle.pks_laws.proofs.laws.start_is_in_order.Goals as goal

pub returns : goal.returns
returns c = λ p v. initial_ordered p v
