use Rattle.std.proofs.Common.{length}
use Rattle.pks_agent.proofs.desks.+longest_action.Given as goal

abbrev pub decreases-longest_action : goal.decreases-longest_action
decreases-longest_action l = length l.schemas.now
