use Rattle.pks_laws_examples.proofs.WorkedRows.{tubs_have_plan}
use Rattle.pks_laws_examples.proofs.examples.tubs_have_a_plan.Goals as goal

pub returns : goal.returns
returns c = tubs_have_plan
