use Rattle.pks_laws_forget.proofs.Told.{cut_told}
use Rattle.pks_laws_forget.proofs.laws_of_aims.aims_that_stay_keep_trees.Goals as goal

pub returns : goal.returns
returns c = λ p before i h t valid moments sets hides stay. cut_told p before i h t valid moments sets hides stay
