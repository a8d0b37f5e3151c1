use Rattle.std.proofs.Common.{length}
use Rattle.pks_query.proofs.databases.Db.+all_decided.Given as goal

abbrev pub decreases-all_decided : goal.decreases-all_decided
decreases-all_decided l = length l.ls.now
