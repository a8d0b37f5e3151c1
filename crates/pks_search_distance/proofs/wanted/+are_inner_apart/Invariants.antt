use Rattle.std.proofs.Common.{length}
use Rattle.pks_search_distance.proofs.wanted.+are_inner_apart.Given as goal

abbrev pub decreases-are_inner_apart : goal.decreases-are_inner_apart
decreases-are_inner_apart l = length l.ts.now
