use Rattle.std.proofs.Common.{length}
use Rattle.pks_history.proofs.histories.+all_in_order.Given as goal

abbrev pub decreases-all_in_order : goal.decreases-all_in_order
decreases-all_in_order l = length l.moments.now
