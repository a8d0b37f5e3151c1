use Rattle.std.proofs.Common.{length}
use Rattle.pks_proof_cited.proofs.swapping.+same_objects.Given as goal

abbrev pub decreases-same_objects : goal.decreases-same_objects
decreases-same_objects l = length l.ds.now
