use Rattle.std.proofs.Common.{length}
use Rattle.pks_search_symmetry.proofs.renaming.+with_images.Given as goal

abbrev pub decreases-with_images : goal.decreases-with_images
decreases-with_images l = length l.ls.now
