use Rattle.std.proofs.Common.{length}
use Rattle.pks_search_witness.proofs.typing.+terms_are_of.Given as goal

abbrev pub decreases-terms_are_of : goal.decreases-terms_are_of
decreases-terms_are_of l = length l.types.now
