use Rattle.std.proofs.Common.{length}
use Rattle.pks_history_forget.proofs.looking.+put_behind.Given as goal

abbrev pub decreases-put_behind : goal.decreases-put_behind
decreases-put_behind l = length l.h.steps
