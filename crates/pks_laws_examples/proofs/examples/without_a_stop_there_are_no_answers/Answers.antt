use Rattle.pks_laws_examples.proofs.WorkedRows.{no_stop_cuts_nothing}
use Rattle.pks_laws_examples.proofs.examples.without_a_stop_there_are_no_answers.Goals as goal

pub returns : goal.returns
returns c = no_stop_cuts_nothing
