use Rattle.std.proofs.Common.{length, ◌-◌}
use Rattle.pks_history_forget.proofs.looking.+later_look.Given as goal

abbrev pub decreases-later_look : goal.decreases-later_look
decreases-later_look l = length l.h.now.steps - l.moment
