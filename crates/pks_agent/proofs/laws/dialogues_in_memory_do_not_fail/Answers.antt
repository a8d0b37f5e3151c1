use Rattle.pks_agent.proofs.Serving.{never_fails}
use Rattle.pks_agent.proofs.laws.dialogues_in_memory_do_not_fail.Goals as goal

pub returns : goal.returns
returns c = λ x result talked none few short safe fault e. never_fails x result talked none few short safe fault e
