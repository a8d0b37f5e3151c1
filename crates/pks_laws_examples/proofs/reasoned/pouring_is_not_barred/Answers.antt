use Rattle.pks_laws_examples.proofs.ReasonedRows.{lawn_not_kept}
use Rattle.pks_laws_examples.proofs.reasoned.pouring_is_not_barred.Goals as goal

pub returns : goal.returns
returns c = lawn_not_kept
