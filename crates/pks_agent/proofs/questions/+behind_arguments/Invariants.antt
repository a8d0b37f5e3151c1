use Rattle.std.proofs.Common.{length}
use Rattle.pks_agent.proofs.questions.+behind_arguments.Given as goal

abbrev pub decreases-behind_arguments : goal.decreases-behind_arguments
decreases-behind_arguments l = length l.arguments.now
