use Rattle.std.proofs.Common.{length}
use Rattle.pks_history_forget.proofs.cutting.+without_unasked.Given as goal

abbrev pub decreases-without_unasked : goal.decreases-without_unasked
decreases-without_unasked l = length l.h.steps
