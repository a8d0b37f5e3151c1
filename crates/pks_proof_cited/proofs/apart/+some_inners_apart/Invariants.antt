use Rattle.std.proofs.Common.{length}
use Rattle.pks_proof_cited.proofs.apart.+some_inners_apart.Given as goal

abbrev pub decreases-some_inners_apart : goal.decreases-some_inners_apart
decreases-some_inners_apart l = length l.ts.now
