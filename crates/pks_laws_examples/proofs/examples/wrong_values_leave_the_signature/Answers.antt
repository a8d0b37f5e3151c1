use Rattle.pks_laws_examples.proofs.WorkedRows.{wrong_value_of, wrong_value_leaves, wrong_value_clashes}
use Rattle.pks_laws_examples.proofs.examples.wrong_values_leave_the_signature.Goals as goal

pub returns : goal.returns
returns c = (wrong_value_of, wrong_value_leaves.0, wrong_value_leaves.1, wrong_value_clashes)
