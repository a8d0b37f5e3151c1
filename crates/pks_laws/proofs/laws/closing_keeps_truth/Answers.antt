use Rattle.pks_laws.proofs.Tidying.{closed_true}
use Rattle.pks_laws.proofs.laws.closing_keeps_truth.Goals as goal

pub returns : goal.returns
returns c = λ s w w' d o m c. closed_true s w w' d m o c
