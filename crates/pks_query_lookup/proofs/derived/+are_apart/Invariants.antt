use Rattle.std.proofs.Common.{length}
use Rattle.pks_query_lookup.proofs.derived.+are_apart.Given as goal

abbrev pub decreases-are_apart : goal.decreases-are_apart
decreases-are_apart l = length l.ts.now
