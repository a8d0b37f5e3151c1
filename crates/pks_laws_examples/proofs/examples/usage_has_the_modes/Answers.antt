use Rattle.pks_laws_examples.proofs.WorkedRows.{usage_lines}
use Rattle.pks_laws_examples.proofs.examples.usage_has_the_modes.Goals as goal

pub returns : goal.returns
returns c = usage_lines
