use Rattle.std.proofs.Common.{length}
use Rattle.pks_exec.proofs.compatibility.+same_values.Given as goal

abbrev pub decreases-same_values : goal.decreases-same_values
decreases-same_values l = length l.ts.now
