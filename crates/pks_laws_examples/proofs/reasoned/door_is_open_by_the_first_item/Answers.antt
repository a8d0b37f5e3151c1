use Rattle.pks_laws_examples.proofs.ReasonedRows.{door_open}
use Rattle.pks_laws_examples.proofs.reasoned.door_is_open_by_the_first_item.Goals as goal

pub returns : goal.returns
returns c = door_open
