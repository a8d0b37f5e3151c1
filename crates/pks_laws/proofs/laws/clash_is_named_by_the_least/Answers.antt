use Rattle.pks_laws.proofs.Sorted.{clash_least}
use Rattle.pks_laws.proofs.laws.clash_is_named_by_the_least.Goals as goal

pub returns : goal.returns
returns c = λ s d l clash sets. clash_least s d l clash sets
