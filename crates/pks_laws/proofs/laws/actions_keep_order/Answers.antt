use Rattle.pks_laws.proofs.SidesInOrder.{progressed_ordered}
use Rattle.pks_laws.proofs.laws.actions_keep_order.Goals as goal

pub returns : goal.returns
returns c = λ s d sc given m. progressed_ordered s sc given d m
