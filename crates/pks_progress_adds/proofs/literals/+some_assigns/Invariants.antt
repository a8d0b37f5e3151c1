use Rattle.std.proofs.Common.{length}
use Rattle.pks_progress_adds.proofs.literals.+some_assigns.Given as goal

abbrev pub decreases-some_assigns : goal.decreases-some_assigns
decreases-some_assigns l = length l.effects.now
