use Rattle.pks_laws_examples.proofs.WorkedRows.{lawn_acts_pour}
use Rattle.pks_laws_examples.proofs.examples.pouring_may_kill_the_lawn.Goals as goal

pub returns : goal.returns
returns c = lawn_acts_pour
