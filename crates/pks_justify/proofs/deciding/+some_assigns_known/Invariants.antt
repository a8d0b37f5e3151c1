use Rattle.std.proofs.Common.{length}
use Rattle.pks_justify.proofs.deciding.+some_assigns_known.Given as goal

abbrev pub decreases-some_assigns_known : goal.decreases-some_assigns_known
decreases-some_assigns_known l = length l.effects.now
