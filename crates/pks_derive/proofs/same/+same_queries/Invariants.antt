use Rattle.std.proofs.Common.{length}
use Rattle.pks_derive.proofs.same.+same_queries.Given as goal

abbrev pub decreases-same_queries : goal.decreases-same_queries
decreases-same_queries l = length l.given.now
