use Rattle.pks_laws_examples.proofs.WorkedRows.{alias_acts_open, alias_open_not_met}
use Rattle.pks_laws_examples.proofs.examples.sweeping_may_take_the_key.Goals as goal

pub returns : goal.returns
returns c = (alias_acts_open, alias_open_not_met)
