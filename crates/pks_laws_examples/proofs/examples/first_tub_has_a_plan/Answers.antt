use Rattle.pks_laws_examples.proofs.WorkedRows.{first_tub_has_plan}
use Rattle.pks_laws_examples.proofs.examples.first_tub_has_a_plan.Goals as goal

pub returns : goal.returns
returns c = first_tub_has_plan
