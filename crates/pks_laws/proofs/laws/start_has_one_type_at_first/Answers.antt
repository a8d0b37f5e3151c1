use Rattle.pks_laws.proofs.OneTypeAlong.{initial_one_typed}
use Rattle.pks_laws.proofs.laws.start_has_one_type_at_first.Goals as goal

pub returns : goal.returns
returns c = λ p v first. initial_one_typed p v first
