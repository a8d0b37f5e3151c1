use Rattle.pks_laws_examples.proofs.WorkedRows.{lawn_shares}
use Rattle.pks_laws_examples.proofs.examples.lawn_is_shared.Goals as goal

pub returns : goal.returns
returns c = lawn_shares
