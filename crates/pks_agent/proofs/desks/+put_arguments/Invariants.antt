use Rattle.std.proofs.Common.{length}
use Rattle.pks_agent.proofs.desks.+put_arguments.Given as goal

abbrev pub decreases-put_arguments : goal.decreases-put_arguments
decreases-put_arguments l = length l.arguments.now
