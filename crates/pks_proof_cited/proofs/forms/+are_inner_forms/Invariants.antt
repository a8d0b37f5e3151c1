use Rattle.std.proofs.Common.{length}
use Rattle.pks_proof_cited.proofs.forms.+are_inner_forms.Given as goal

abbrev pub decreases-are_inner_forms : goal.decreases-are_inner_forms
decreases-are_inner_forms l = length l.ts.now
