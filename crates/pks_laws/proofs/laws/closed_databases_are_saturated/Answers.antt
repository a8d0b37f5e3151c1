use Rattle.pks_laws.proofs.ClosedAgain.{closed_saturated}
use Rattle.pks_laws.proofs.laws.closed_databases_are_saturated.Goals as goal

pub returns : goal.returns
returns c = λ s d inhabited closed ordered. closed_saturated s inhabited d closed ordered
