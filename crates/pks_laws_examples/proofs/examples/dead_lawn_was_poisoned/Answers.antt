use Rattle.pks_laws_examples.proofs.WorkedRows.{lawn_takes_dead}
use Rattle.pks_laws_examples.proofs.examples.dead_lawn_was_poisoned.Goals as goal

pub returns : goal.returns
returns c = lawn_takes_dead
