use Rattle.std.proofs.Common.{length}
use Rattle.pks_search_symmetry.proofs.fixed.+have_images.Given as goal

abbrev pub decreases-have_images : goal.decreases-have_images
decreases-have_images l = length l.some.now
