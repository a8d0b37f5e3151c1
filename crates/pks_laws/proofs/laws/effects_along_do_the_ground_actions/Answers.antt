use Rattle.pks_laws.proofs.Doing.{all_effects_do}
use Rattle.pks_laws.proofs.laws.effects_along_do_the_ground_actions.Goals as goal

pub returns : goal.returns
returns c = λ p w is. all_effects_do p is w
