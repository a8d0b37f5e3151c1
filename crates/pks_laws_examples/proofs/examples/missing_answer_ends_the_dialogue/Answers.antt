use Rattle.pks_laws_examples.proofs.WorkedRows.{lawn_silent}
use Rattle.pks_laws_examples.proofs.examples.missing_answer_ends_the_dialogue.Goals as goal

pub returns : goal.returns
returns c = lawn_silent
