use Rattle.pks_laws_examples.proofs.ReasonedRows.{door_explained, door_text}
use Rattle.pks_laws_examples.proofs.reasoned.door_is_explained.Goals as goal

pub returns : goal.returns
returns c = (door_explained, door_text)
