use Rattle.pks_recall.proofs.LeafLaws.{recalled_as_many}
use Rattle.pks_recall.proofs.laws.each_leaf_has_a_state.Goals as goal

pub returns : goal.returns
returns c = λ p t xs a. recalled_as_many p t xs a
