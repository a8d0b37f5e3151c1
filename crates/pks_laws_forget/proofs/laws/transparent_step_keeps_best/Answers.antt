use Rattle.pks_laws_forget.proofs.Cut.{cut_best}
use Rattle.pks_laws_forget.proofs.laws.transparent_step_keeps_best.Goals as goal

pub returns : goal.returns
returns c = λ p before i h n o valid plain moments sets hides. cut_best p before i h n o valid plain moments sets hides
