use Rattle.pks_laws_examples.proofs.WorkedRows.{safe_talk}
use Rattle.pks_laws_examples.proofs.examples.safe_is_talked_about.Goals as goal

pub returns : goal.returns
returns c = safe_talk
