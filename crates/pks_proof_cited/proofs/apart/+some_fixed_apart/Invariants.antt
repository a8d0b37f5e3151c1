use Rattle.std.proofs.Common.{length}
use Rattle.pks_proof_cited.proofs.apart.+some_fixed_apart.Given as goal

abbrev pub decreases-some_fixed_apart : goal.decreases-some_fixed_apart
decreases-some_fixed_apart l = length l.slots.now
