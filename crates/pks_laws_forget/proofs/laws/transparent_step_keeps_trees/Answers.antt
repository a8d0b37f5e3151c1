use Rattle.pks_laws_forget.proofs.Cut.{cut}
use Rattle.pks_laws_forget.proofs.laws.transparent_step_keeps_trees.Goals as goal

pub returns : goal.returns
returns c = λ p before i h t valid plain moments sets hides. cut p before i h t valid plain moments sets hides
