use Rattle.pks_laws_examples.proofs.WorkedRows.{lawn_shared_printed}
use Rattle.pks_laws_examples.proofs.examples.lawn_nodes_as_printed.Goals as goal

pub returns : goal.returns
returns c = lawn_shared_printed
