use Rattle.std.proofs.Common.{length}
use Rattle.pks_proof_cited.proofs.swapping.+same_terms.Given as goal

abbrev pub decreases-same_terms : goal.decreases-same_terms
decreases-same_terms l = length l.ts.now
