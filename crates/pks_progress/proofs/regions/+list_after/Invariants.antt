use Rattle.std.proofs.Common.{length}
use Rattle.pks_progress.proofs.regions.+list_after.Given as goal

abbrev pub decreases-list_after : goal.decreases-list_after
decreases-list_after l = length l.atoms.now
