use Rattle.std.proofs.Common.{length}
use Rattle.pks_search_distance.proofs.wanted.+add_all_wanted.Given as goal

abbrev pub decreases-add_all_wanted : goal.decreases-add_all_wanted
decreases-add_all_wanted l = length l.aims.now
