use Rattle.std.proofs.Common.{length}
use Rattle.pks_justify.proofs.undoing.+some_fixed_are_apart.Given as goal

abbrev pub decreases-some_fixed_are_apart : goal.decreases-some_fixed_are_apart
decreases-some_fixed_are_apart l = length l.ts.now
