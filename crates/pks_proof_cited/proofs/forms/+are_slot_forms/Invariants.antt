use Rattle.std.proofs.Common.{length}
use Rattle.pks_proof_cited.proofs.forms.+are_slot_forms.Given as goal

abbrev pub decreases-are_slot_forms : goal.decreases-are_slot_forms
decreases-are_slot_forms l = length l.slots.now
