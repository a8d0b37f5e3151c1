use Rattle.pks_laws.proofs.SearchStates.{start_of}
use Rattle.pks_laws.proofs.laws.first_history_is_of_signature.Goals as goal

pub returns : goal.returns
returns c = λ p d v c. start_of p v d c
