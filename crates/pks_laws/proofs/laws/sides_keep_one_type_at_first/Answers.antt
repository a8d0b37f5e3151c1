use Rattle.pks_laws.proofs.OneTypeAlong.{assumed_one_typed}
use Rattle.pks_laws.proofs.laws.sides_keep_one_type_at_first.Goals as goal

pub returns : goal.returns
returns c = λ p d c side first m member has. assumed_one_typed p.signature first.parents d m c side member has
