use Rattle.std.proofs.Common.{length}
use Rattle.pks_history_forget.proofs.cutting.+without_settled.Given as goal

abbrev pub decreases-without_settled : goal.decreases-without_settled
decreases-without_settled l = length l.h.steps
