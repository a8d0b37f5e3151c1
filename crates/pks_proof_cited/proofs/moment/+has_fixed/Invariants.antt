use Rattle.std.proofs.Common.{length}
use Rattle.pks_proof_cited.proofs.moment.+has_fixed.Given as goal

abbrev pub decreases-has_fixed : goal.decreases-has_fixed
decreases-has_fixed l = length l.slots.now
