use Rattle.pks_laws.proofs.Sorted.{initial_sets}
use Rattle.pks_laws.proofs.laws.start_is_of_sets.Goals as goal

pub returns : goal.returns
returns c = λ p. initial_sets p
