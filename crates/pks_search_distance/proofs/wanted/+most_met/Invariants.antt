use Rattle.std.proofs.Common.{length}
use Rattle.pks_search_distance.proofs.wanted.+most_met.Given as goal

abbrev pub decreases-most_met : goal.decreases-most_met
decreases-most_met l = length l.ground_actions.now
