use Rattle.pks_laws_examples.proofs.WorkedRows.{lawn_takes_living}
use Rattle.pks_laws_examples.proofs.examples.living_lawn_was_not_poisoned.Goals as goal

pub returns : goal.returns
returns c = lawn_takes_living
