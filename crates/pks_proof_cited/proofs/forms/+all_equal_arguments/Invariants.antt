use Rattle.std.proofs.Common.{length}
use Rattle.pks_proof_cited.proofs.forms.+all_equal_arguments.Given as goal

abbrev pub decreases-all_equal_arguments : goal.decreases-all_equal_arguments
decreases-all_equal_arguments l = length l.ts.now
