use Rattle.pks_laws_examples.proofs.WorkedRows.{alias_closes}
use Rattle.pks_laws_examples.proofs.examples.place_that_is_not_the_hall_is_the_den.Goals as goal

pub returns : goal.returns
returns c = alias_closes
