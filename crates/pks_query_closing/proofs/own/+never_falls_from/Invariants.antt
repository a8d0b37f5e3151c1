use Rattle.std.proofs.Common.{length}
use Rattle.pks_query_closing.proofs.own.+never_falls_from.Given as goal

abbrev pub decreases-never_falls_from : goal.decreases-never_falls_from
decreases-never_falls_from l = length l.ls.now
