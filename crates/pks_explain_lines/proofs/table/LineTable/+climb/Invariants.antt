use Rattle.std.proofs.Common.{length}
use Rattle.pks_explain_lines.proofs.table.LineTable.+climb.Given as goal

abbrev pub decreases-climb : goal.decreases-climb
decreases-climb l = length l.chain.now
