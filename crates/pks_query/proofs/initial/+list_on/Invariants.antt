use Rattle.std.proofs.Common.{length}
use Rattle.pks_query.proofs.initial.+list_on.Given as goal

abbrev pub decreases-list_on : goal.decreases-list_on
decreases-list_on l = length l.lists.now
