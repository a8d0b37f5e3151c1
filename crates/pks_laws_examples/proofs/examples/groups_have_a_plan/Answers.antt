use Rattle.pks_laws_examples.proofs.WorkedRows.{groups_have_plan}
use Rattle.pks_laws_examples.proofs.examples.groups_have_a_plan.Goals as goal

pub returns : goal.returns
returns c = groups_have_plan
