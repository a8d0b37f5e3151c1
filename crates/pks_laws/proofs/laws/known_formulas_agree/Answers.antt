use Rattle.pks_laws.proofs.Answering.{known_whether_alike}
use Rattle.pks_laws.proofs.laws.known_formulas_agree.Goals as goal

pub returns : goal.returns
returns c = λ s w w' d c m k. known_whether_alike w w' d m c k
