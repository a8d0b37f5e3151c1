use Rattle.pks_dag.proofs.SharedOnce.{shared_one}
use Rattle.pks_dag.proofs.laws.there_is_one_list_of_nodes.Goals as goal

pub returns : goal.returns
returns c = λ t xs ys a b. shared_one t xs ys a b
