use Rattle.std.proofs.Common.{length}
use Rattle.pks_search_symmetry.proofs.renaming.+are_inners.Given as goal

abbrev pub decreases-are_inners : goal.decreases-are_inners
decreases-are_inners l = length l.ts.now
