use Rattle.pks_laws_examples.proofs.WorkedRows.{alias_has_plan}
use Rattle.pks_laws_examples.proofs.examples.alias_has_a_plan.Goals as goal

pub returns : goal.returns
returns c = alias_has_plan
