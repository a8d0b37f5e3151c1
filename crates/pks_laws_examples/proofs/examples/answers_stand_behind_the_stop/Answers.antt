use Rattle.pks_laws_examples.proofs.WorkedRows.{stop_cuts}
use Rattle.pks_laws_examples.proofs.examples.answers_stand_behind_the_stop.Goals as goal

pub returns : goal.returns
returns c = stop_cuts
