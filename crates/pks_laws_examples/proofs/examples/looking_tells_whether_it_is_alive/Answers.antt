use Rattle.pks_laws_examples.proofs.WorkedRows.{lawn_acts_look}
use Rattle.pks_laws_examples.proofs.examples.looking_tells_whether_it_is_alive.Goals as goal

pub returns : goal.returns
returns c = lawn_acts_look
