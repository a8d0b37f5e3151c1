use Rattle.std.proofs.Common.{length}
use Rattle.pks_history_forget.proofs.looking.+put_first.Given as goal

abbrev pub decreases-put_first : goal.decreases-put_first
decreases-put_first l = length l.h.steps
