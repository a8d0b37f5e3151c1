use Rattle.pks_laws.proofs.SearchStates.{acts_of}
use Rattle.pks_laws.proofs.laws.acting_keeps_histories_of_signature.Goals as goal

pub returns : goal.returns
returns c = λ p h g i v m chosen a. acts_of p v h g i m chosen a
