use Rattle.std.proofs.Common.{length}
use Rattle.pks_postdict_rules.proofs.firing.+put_all_cannot_have_fired.Given as goal

abbrev pub decreases-put_all_cannot_have_fired : goal.decreases-put_all_cannot_have_fired
decreases-put_all_cannot_have_fired l = length l.written.now
