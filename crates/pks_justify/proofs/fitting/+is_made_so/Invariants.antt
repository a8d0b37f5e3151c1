use Rattle.std.proofs.Common.{length}
use Rattle.pks_justify.proofs.fitting.+is_made_so.Given as goal

abbrev pub decreases-is_made_so : goal.decreases-is_made_so
decreases-is_made_so l = length l.effects.now
