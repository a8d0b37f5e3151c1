use Rattle.pks_laws.proofs.Compatible.{compatible_kept}
use Rattle.pks_laws.proofs.laws.compatible_worlds_keep_all.Goals as goal

pub returns : goal.returns
returns c = λ p w k. compatible_kept p w k
