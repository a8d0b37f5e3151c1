use Rattle.pks_laws.proofs.TreeOrder.{tree_tells}
use Rattle.pks_laws.proofs.laws.tree_order_tells_trees_apart.Goals as goal

pub returns : goal.returns
returns c = λ size t u e. tree_tells size t u e
