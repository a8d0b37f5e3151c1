use Rattle.pks_laws.proofs.ClosedAgain.{closed_holds}
use Rattle.pks_laws.proofs.laws.literals_hold_as_normal_forms_do.Goals as goal

pub returns : goal.returns
returns c = λ s d l inhabited closed. closed_holds s inhabited d closed l
