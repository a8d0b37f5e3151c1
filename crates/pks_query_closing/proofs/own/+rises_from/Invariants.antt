use Rattle.std.proofs.Common.{length}
use Rattle.pks_query_closing.proofs.own.+rises_from.Given as goal

abbrev pub decreases-rises_from : goal.decreases-rises_from
decreases-rises_from l = length l.ls.now
