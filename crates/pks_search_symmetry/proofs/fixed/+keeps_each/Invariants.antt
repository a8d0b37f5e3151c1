use Rattle.std.proofs.Common.{length}
use Rattle.pks_search_symmetry.proofs.fixed.+keeps_each.Given as goal

abbrev pub decreases-keeps_each : goal.decreases-keeps_each
decreases-keeps_each l = length l.schemas.now
