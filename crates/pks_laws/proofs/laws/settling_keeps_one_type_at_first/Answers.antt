use Rattle.pks_laws.proofs.OneTypeAlong.{settled_one_typed}
use Rattle.pks_laws.proofs.laws.settling_keeps_one_type_at_first.Goals as goal

pub returns : goal.returns
returns c = λ p h g v first m settles. settled_one_typed p v first h g m settles
