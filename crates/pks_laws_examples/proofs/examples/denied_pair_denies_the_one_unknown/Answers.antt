use Rattle.pks_laws_examples.proofs.WorkedRows.{pair_takes_false}
use Rattle.pks_laws_examples.proofs.examples.denied_pair_denies_the_one_unknown.Goals as goal

pub returns : goal.returns
returns c = pair_takes_false
