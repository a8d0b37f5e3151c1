use Rattle.std.proofs.Common.{length}
use Rattle.pks_proof_cited.proofs.swapping.+same_inners.Given as goal

abbrev pub decreases-same_inners : goal.decreases-same_inners
decreases-same_inners l = length l.ts.now
