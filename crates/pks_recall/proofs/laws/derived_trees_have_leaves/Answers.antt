use Rattle.pks_recall.proofs.LeafLaws.{some_recalled}
use Rattle.pks_recall.proofs.laws.derived_trees_have_leaves.Goals as goal

pub returns : goal.returns
returns c = λ p t plan. some_recalled p t plan
