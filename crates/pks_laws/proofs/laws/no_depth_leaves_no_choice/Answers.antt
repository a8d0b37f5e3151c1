use Rattle.pks_laws.proofs.Choosing.{best_shallow}
use Rattle.pks_laws.proofs.laws.no_depth_leaves_no_choice.Goals as goal

pub returns : goal.returns
returns c = λ p h o b. best_shallow p h o b
