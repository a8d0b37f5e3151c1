use Rattle.std.proofs.Common.{length}
use Rattle.pks_branch.proofs.early.+is_barred.Given as goal

abbrev pub decreases-is_barred : goal.decreases-is_barred
decreases-is_barred l = length l.pre.now
