use Rattle.pks_laws.proofs.Compatible.{kept_compatible}
use Rattle.pks_laws.proofs.laws.worlds_that_keep_all_are_compatible.Goals as goal

pub returns : goal.returns
returns c = λ p w i k. kept_compatible p w i k
