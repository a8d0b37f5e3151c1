use Rattle.pks_laws.proofs.Sorted.{assumed_sets}
use Rattle.pks_laws.proofs.laws.sides_keep_sets.Goals as goal

pub returns : goal.returns
returns c = λ s d c side m. assumed_sets s d c side m
