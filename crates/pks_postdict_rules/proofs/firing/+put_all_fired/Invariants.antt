use Rattle.std.proofs.Common.{length}
use Rattle.pks_postdict_rules.proofs.firing.+put_all_fired.Given as goal

abbrev pub decreases-put_all_fired : goal.decreases-put_all_fired
decreases-put_all_fired l = length l.written.now
