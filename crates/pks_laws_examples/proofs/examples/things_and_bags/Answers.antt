use Rattle.pks_laws_examples.proofs.WorkedRows.{crate_things, crate_bags}
use Rattle.pks_laws_examples.proofs.examples.things_and_bags.Goals as goal

pub returns : goal.returns
returns c = (crate_things, crate_bags)
