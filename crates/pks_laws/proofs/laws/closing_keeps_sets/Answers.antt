use Rattle.pks_laws.proofs.Sorted.{closed_sets}
use Rattle.pks_laws.proofs.laws.closing_keeps_sets.Goals as goal

pub returns : goal.returns
returns c = λ s d e m c. closed_sets s d e m c
