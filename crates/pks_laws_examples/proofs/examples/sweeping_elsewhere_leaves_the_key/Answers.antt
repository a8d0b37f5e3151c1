use Rattle.pks_laws_examples.proofs.WorkedRows.{alias_acts_elsewhere}
use Rattle.pks_laws_examples.proofs.examples.sweeping_elsewhere_leaves_the_key.Goals as goal

pub returns : goal.returns
returns c = alias_acts_elsewhere
