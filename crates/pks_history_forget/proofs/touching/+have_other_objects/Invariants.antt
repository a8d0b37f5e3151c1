use Rattle.std.proofs.Common.{length}
use Rattle.pks_history_forget.proofs.touching.+have_other_objects.Given as goal

abbrev pub decreases-have_other_objects : goal.decreases-have_other_objects
decreases-have_other_objects l = length l.ts.now
