use Rattle.pks_laws_examples.proofs.WorkedRows.{groups_take_true}
use Rattle.pks_laws_examples.proofs.examples.groups_clash.Goals as goal

pub returns : goal.returns
returns c = groups_take_true
