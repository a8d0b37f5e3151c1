use Rattle.pks_laws_examples.proofs.WorkedRows.{crate_closes}
use Rattle.pks_laws_examples.proofs.examples.spot_that_is_not_one_box_is_the_other.Goals as goal

pub returns : goal.returns
returns c = crate_closes
