use Rattle.std.proofs.Common.{◌-◌}
use Rattle.pks_search.proofs.rising.+best_rising.Given as goal

abbrev pub decreases-best_rising : goal.decreases-best_rising
decreases-best_rising l = l.full - l.n
