use Rattle.std.proofs.Common.{length}
use Rattle.pks_history_forget.proofs.staying.+at_other_objects.Given as goal

abbrev pub decreases-at_other_objects : goal.decreases-at_other_objects
decreases-at_other_objects l = length l.ts.now
