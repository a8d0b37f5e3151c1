use Rattle.std.proofs.Common.{length}
use Rattle.pks_search_distance.proofs.marking.+add_alone.Given as goal

abbrev pub decreases-add_alone : goal.decreases-add_alone
decreases-add_alone l = length l.wanted.now
