use Rattle.pks_laws.proofs.Choosing.{best_goal}
use Rattle.pks_laws.proofs.laws.met_goal_is_best.Goals as goal

pub returns : goal.returns
returns c = λ p h n m. best_goal p h n m
