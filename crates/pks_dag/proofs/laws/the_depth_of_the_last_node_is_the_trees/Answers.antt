use Rattle.pks_dag.proofs.Depths.{depth_is_printed}
use Rattle.pks_dag.proofs.laws.the_depth_of_the_last_node_is_the_trees.Goals as goal

pub returns : goal.returns
returns c = λ t nodes s. depth_is_printed t nodes s
