use Rattle.std.proofs.Common.{length}
use Rattle.pks_search_symmetry.proofs.fixed.+has_image.Given as goal

abbrev pub decreases-has_image : goal.decreases-has_image
decreases-has_image l = length l.goal.now
