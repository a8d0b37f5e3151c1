use Rattle.pks_laws_examples.proofs.WorkedRows.{groups_take_false}
use Rattle.pks_laws_examples.proofs.examples.groups_without_r_do_not_clash.Goals as goal

pub returns : goal.returns
returns c = groups_take_false
