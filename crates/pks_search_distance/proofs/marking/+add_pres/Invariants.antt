use Rattle.std.proofs.Common.{length}
use Rattle.pks_search_distance.proofs.marking.+add_pres.Given as goal

abbrev pub decreases-add_pres : goal.decreases-add_pres
decreases-add_pres l = length l.ground_actions.now
