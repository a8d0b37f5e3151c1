use Rattle.std.proofs.Common.{length}
use Rattle.pks_search_distance.proofs.wanted.+are_apart.Given as goal

abbrev pub decreases-are_apart : goal.decreases-are_apart
decreases-are_apart l = length l.ts.now
