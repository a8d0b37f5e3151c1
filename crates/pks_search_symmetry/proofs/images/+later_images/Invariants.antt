use Rattle.std.proofs.Common.{length, ◌-◌}
use Rattle.pks_search_symmetry.proofs.images.+later_images.Given as goal

abbrev pub decreases-later_images : goal.decreases-later_images
decreases-later_images l = length l.h.now.steps - l.moment
