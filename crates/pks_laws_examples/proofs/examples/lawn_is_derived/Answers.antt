use Rattle.pks_laws_examples.proofs.WorkedRows.{lawn_derives}
use Rattle.pks_laws_examples.proofs.examples.lawn_is_derived.Goals as goal

pub returns : goal.returns
returns c = lawn_derives
