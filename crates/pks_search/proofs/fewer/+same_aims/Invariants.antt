use Rattle.std.proofs.Common.{length}
use Rattle.pks_search.proofs.fewer.+same_aims.Given as goal

abbrev pub decreases-same_aims : goal.decreases-same_aims
decreases-same_aims l = length l.some.now
