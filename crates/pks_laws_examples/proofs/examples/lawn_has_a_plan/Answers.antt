use Rattle.pks_laws_examples.proofs.WorkedRows.{lawn_has_plan}
use Rattle.pks_laws_examples.proofs.examples.lawn_has_a_plan.Goals as goal

pub returns : goal.returns
returns c = lawn_has_plan
