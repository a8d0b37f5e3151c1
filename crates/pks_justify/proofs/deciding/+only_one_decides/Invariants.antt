use Rattle.std.proofs.Common.{length}
use Rattle.pks_justify.proofs.deciding.+only_one_decides.Given as goal

abbrev pub decreases-only_one_decides : goal.decreases-only_one_decides
decreases-only_one_decides l = length l.effects.now
