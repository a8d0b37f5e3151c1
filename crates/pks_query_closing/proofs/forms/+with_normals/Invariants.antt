use Rattle.std.proofs.Common.{length}
use Rattle.pks_query_closing.proofs.forms.+with_normals.Given as goal

abbrev pub decreases-with_normals : goal.decreases-with_normals
decreases-with_normals l = length l.ls.now
