use Rattle.pks_laws.proofs.Sorted.{progressed_sets}
use Rattle.pks_laws.proofs.laws.actions_keep_sets.Goals as goal

pub returns : goal.returns
returns c = λ s d sc given m. progressed_sets s d sc given m
