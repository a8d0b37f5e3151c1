use Rattle.pks_proof_lines.proofs.Accepted.{lines_true}
use Rattle.pks_proof_lines.proofs.laws.allowed_lines_are_true.Goals as goal

pub returns : goal.returns
returns c = λ p path w proof n line typed steps start goes h e. lines_true p path w typed steps start goes proof h n line e
