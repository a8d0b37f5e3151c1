use Rattle.pks_laws.proofs.SidesInOrder.{assumed_ordered}
use Rattle.pks_laws.proofs.laws.sides_keep_order.Goals as goal

pub returns : goal.returns
returns c = λ s d c side m member. assumed_ordered s d m c side member
