use Rattle.std.proofs.Common.{length}
use Rattle.pks_proof_cited.proofs.swapping.+one_object_swapped.Given as goal

abbrev pub decreases-one_object_swapped : goal.decreases-one_object_swapped
decreases-one_object_swapped l = length l.ds.now
