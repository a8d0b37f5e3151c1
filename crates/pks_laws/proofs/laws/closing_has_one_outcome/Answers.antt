use Rattle.pks_laws.proofs.Unique.{closes_one}
use Rattle.pks_laws.proofs.laws.closing_has_one_outcome.Goals as goal

pub returns : goal.returns
returns c = λ s d o q a b. closes_one s d o q a b
