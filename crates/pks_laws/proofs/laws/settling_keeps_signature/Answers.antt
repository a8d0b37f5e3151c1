use Rattle.pks_laws.proofs.BelongingHistories.{settled_of}
use Rattle.pks_laws.proofs.laws.settling_keeps_signature.Goals as goal

pub returns : goal.returns
returns c = λ p h g v m settles. settled_of p v h g settles m
