use Rattle.std.proofs.Common.{length}
use Rattle.pks_proof_cited.proofs.swapping.+swaps_terms.Given as goal

abbrev pub decreases-swaps_terms : goal.decreases-swaps_terms
decreases-swaps_terms l = length l.ts.now
