use Rattle.pks_laws.proofs.BelongingHistories.{settled_closed}
use Rattle.pks_laws.proofs.laws.settled_moments_are_closed.Goals as goal

pub returns : goal.returns
returns c = λ p h g settles. settled_closed p h g settles
