use Rattle.pks_terms.specs.Settling.{settle_rounds}
use Rattle.pks_laws.proofs.SettledEnd.{end_closed}
use Rattle.pks_laws.proofs.laws.settled_end_is_closed.Goals as goal

pub returns : goal.returns
returns c = λ p h n last fine. end_closed p (settle_rounds p n h) last fine
