use Rattle.pks_laws.proofs.BestTree.{before_do}
use Rattle.pks_laws.proofs.laws.better_child_makes_better_action.Goals as goal

pub returns : goal.returns
returns c = λ p i t u b. before_do p i t u b
