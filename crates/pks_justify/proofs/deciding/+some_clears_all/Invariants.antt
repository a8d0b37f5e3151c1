use Rattle.std.proofs.Common.{length}
use Rattle.pks_justify.proofs.deciding.+some_clears_all.Given as goal

abbrev pub decreases-some_clears_all : goal.decreases-some_clears_all
decreases-some_clears_all l = length l.effects.now
