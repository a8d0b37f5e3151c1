use Rattle.std.proofs.Common.{length}
use Rattle.pks_proof_cited.proofs.apart.+some_apart.Given as goal

abbrev pub decreases-some_apart : goal.decreases-some_apart
decreases-some_apart l = length l.ts.now
