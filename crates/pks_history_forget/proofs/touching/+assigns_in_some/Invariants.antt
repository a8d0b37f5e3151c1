use Rattle.std.proofs.Common.{length}
use Rattle.pks_history_forget.proofs.touching.+assigns_in_some.Given as goal

abbrev pub decreases-assigns_in_some : goal.decreases-assigns_in_some
decreases-assigns_in_some l = length l.ts.now
