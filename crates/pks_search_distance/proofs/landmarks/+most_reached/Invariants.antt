use Rattle.std.proofs.Common.{length}
use Rattle.pks_search_distance.proofs.landmarks.+most_reached.Given as goal

abbrev pub decreases-most_reached : goal.decreases-most_reached
decreases-most_reached l = length l.ground_actions.now
