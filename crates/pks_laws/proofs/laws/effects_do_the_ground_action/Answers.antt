use Rattle.pks_laws.proofs.Doing.{effects_do}
use Rattle.pks_laws.proofs.laws.effects_do_the_ground_action.Goals as goal

pub returns : goal.returns
returns c = λ p w i. effects_do p w i
