use Rattle.pks_laws_examples.proofs.WorkedRows.{pair_takes_nothing}
use Rattle.pks_laws_examples.proofs.examples.denied_pair_of_unknowns_denies_neither.Goals as goal

pub returns : goal.returns
returns c = pair_takes_nothing
