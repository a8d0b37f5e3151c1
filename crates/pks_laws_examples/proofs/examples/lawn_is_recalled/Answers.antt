use Rattle.pks_laws_examples.proofs.WorkedRows.{lawn_recalls}
use Rattle.pks_laws_examples.proofs.examples.lawn_is_recalled.Goals as goal

pub returns : goal.returns
returns c = lawn_recalls
