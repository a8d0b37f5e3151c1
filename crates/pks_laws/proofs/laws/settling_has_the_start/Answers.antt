use Rattle.pks_laws.proofs.SettledEnd.{rounds_have_start}
use Rattle.pks_laws.proofs.laws.settling_has_the_start.Goals as goal

pub returns : goal.returns
returns c = λ p h n. rounds_have_start p h n
