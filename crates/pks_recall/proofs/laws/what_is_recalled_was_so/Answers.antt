use Rattle.pks_recall.proofs.LeafLaws.{recalled_true}
use Rattle.pks_recall.proofs.laws.what_is_recalled_was_so.Goals as goal

pub returns : goal.returns
returns c = λ p t xs justified typed plan r. recalled_true p t xs justified typed plan r
