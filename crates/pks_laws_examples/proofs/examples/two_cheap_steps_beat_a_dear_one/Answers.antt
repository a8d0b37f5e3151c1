use Rattle.pks_laws_examples.proofs.WorkedRows.{cheaper}
use Rattle.pks_laws_examples.proofs.examples.two_cheap_steps_beat_a_dear_one.Goals as goal

pub returns : goal.returns
returns c = cheaper
