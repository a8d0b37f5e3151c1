use Rattle.std.proofs.Common.{length}
use Rattle.pks_proof_cited.proofs.swapping.+one_inner_swapped.Given as goal

abbrev pub decreases-one_inner_swapped : goal.decreases-one_inner_swapped
decreases-one_inner_swapped l = length l.ts.now
