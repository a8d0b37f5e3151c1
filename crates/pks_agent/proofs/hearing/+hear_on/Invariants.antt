use Rattle.std.proofs.Common.{◌-◌, length}
use Rattle.pks_agent.specs.Answers.{answer_text}
use Rattle.pks_agent.proofs.hearing.+hear_on.Given as goal

abbrev pub decreases-hear_on : goal.decreases-hear_on
decreases-hear_on g l = 64 - length (answer_text l.into.now)
