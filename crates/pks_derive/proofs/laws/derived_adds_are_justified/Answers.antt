use Rattle.pks_derive.proofs.Replaced.{derived_justified}
use Rattle.pks_derive.proofs.laws.derived_adds_are_justified.Goals as goal

pub returns : goal.returns
returns c = λ sc. derived_justified sc
