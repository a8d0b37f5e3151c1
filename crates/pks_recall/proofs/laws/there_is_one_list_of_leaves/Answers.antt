use Rattle.pks_recall.proofs.LeafLaws.{one_recalled}
use Rattle.pks_recall.proofs.laws.there_is_one_list_of_leaves.Goals as goal

pub returns : goal.returns
returns c = λ p t xs ys a b. one_recalled p t xs ys a b
