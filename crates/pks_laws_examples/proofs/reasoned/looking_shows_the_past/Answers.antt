use Rattle.pks_laws_examples.proofs.ReasonedRows.{past_shown}
use Rattle.pks_laws_examples.proofs.reasoned.looking_shows_the_past.Goals as goal

pub returns : goal.returns
returns c = past_shown
