use Rattle.pks_laws.proofs.ClosedAgain.{closed_fine}
use Rattle.pks_laws.proofs.laws.closed_databases_do_not_clash.Goals as goal

pub returns : goal.returns
returns c = λ s d inhabited closed. closed_fine s inhabited d closed
