use Rattle.std.proofs.Common.{length}
use Rattle.pks_proof_cited.proofs.forms.+are_forms.Given as goal

abbrev pub decreases-are_forms : goal.decreases-are_forms
decreases-are_forms l = length l.ts.now
