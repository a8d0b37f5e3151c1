use Rattle.std.proofs.Common.{length}
use Rattle.pks_proof_cited.proofs.swapping.+one_slot_swapped.Given as goal

abbrev pub decreases-one_slot_swapped : goal.decreases-one_slot_swapped
decreases-one_slot_swapped l = length l.slots.now
