use Rattle.pks_laws_examples.proofs.WorkedRows.{crate_apart, crate_open, crate_left}
use Rattle.pks_laws_examples.proofs.examples.boxes_are_left_as_the_spot.Goals as goal

pub returns : goal.returns
returns c = (crate_apart, crate_open, crate_left)
