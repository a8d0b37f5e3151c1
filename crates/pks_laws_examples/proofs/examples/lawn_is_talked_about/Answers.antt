use Rattle.pks_laws_examples.proofs.WorkedRows.{lawn_talk}
use Rattle.pks_laws_examples.proofs.examples.lawn_is_talked_about.Goals as goal

pub returns : goal.returns
returns c = lawn_talk
