use Rattle.std.proofs.Common.{length}
use Rattle.pks_agent.proofs.fit.+named_from.Given as goal

abbrev pub decreases-named_from : goal.decreases-named_from
decreases-named_from l = length l.owns.now
