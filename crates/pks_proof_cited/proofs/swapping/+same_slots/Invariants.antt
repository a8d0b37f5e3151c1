use Rattle.std.proofs.Common.{length}
use Rattle.pks_proof_cited.proofs.swapping.+same_slots.Given as goal

abbrev pub decreases-same_slots : goal.decreases-same_slots
decreases-same_slots l = length l.slots.now
