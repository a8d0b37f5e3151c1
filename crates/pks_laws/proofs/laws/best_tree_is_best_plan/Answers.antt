use Rattle.pks_laws.proofs.Choosing.{best_plan}
use Rattle.pks_laws.proofs.laws.best_tree_is_best_plan.Goals as goal

pub returns : goal.returns
returns c = λ p o n best closes b. best_plan p o n best closes b
