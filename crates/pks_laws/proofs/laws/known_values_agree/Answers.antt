use Rattle.pks_laws.proofs.Answering.{known_value_alike}
use Rattle.pks_laws.proofs.laws.known_values_agree.Goals as goal

pub returns : goal.returns
returns c = λ s w w' d t m k. known_value_alike w w' d m t k
