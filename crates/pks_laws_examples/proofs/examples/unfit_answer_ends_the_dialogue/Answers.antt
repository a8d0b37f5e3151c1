use Rattle.pks_laws_examples.proofs.WorkedRows.{lawn_unfit}
use Rattle.pks_laws_examples.proofs.examples.unfit_answer_ends_the_dialogue.Goals as goal

pub returns : goal.returns
returns c = lawn_unfit
