use Rattle.pks_laws.proofs.Instances.{arguments_alike}
use Rattle.pks_laws.proofs.laws.arguments_agree.Goals as goal

pub returns : goal.returns
returns c = λ p w w' d i m chosen. arguments_alike w w' p d m.values i chosen
