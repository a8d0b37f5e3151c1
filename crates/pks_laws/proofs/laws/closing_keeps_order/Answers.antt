use Rattle.pks_laws.proofs.SidesInOrder.{closed_ordered}
use Rattle.pks_laws.proofs.laws.closing_keeps_order.Goals as goal

pub returns : goal.returns
returns c = λ s d e m c. closed_ordered s d e m c
