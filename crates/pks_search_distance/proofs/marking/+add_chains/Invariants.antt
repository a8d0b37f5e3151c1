use Rattle.std.proofs.Common.{length}
use Rattle.pks_search_distance.proofs.marking.+add_chains.Given as goal

abbrev pub decreases-add_chains : goal.decreases-add_chains
decreases-add_chains l = length l.wanted.now
