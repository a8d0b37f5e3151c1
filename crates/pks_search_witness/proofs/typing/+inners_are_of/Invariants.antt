use Rattle.std.proofs.Common.{length}
use Rattle.pks_search_witness.proofs.typing.+inners_are_of.Given as goal

abbrev pub decreases-inners_are_of : goal.decreases-inners_are_of
decreases-inners_are_of l = length l.types.now
