use Rattle.std.proofs.Common.{length}
use Rattle.pks_agent.proofs.desks.+longest_name.Given as goal

abbrev pub decreases-longest_name : goal.decreases-longest_name
decreases-longest_name l = length l.names.now
