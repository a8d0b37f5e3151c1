use Rattle.pks_laws.proofs.Choosing.{best_act}
use Rattle.pks_laws.proofs.laws.best_child_makes_best_action.Goals as goal

pub returns : goal.returns
returns c = λ p h n i y o member acts b. best_act p h n i y o member acts b
