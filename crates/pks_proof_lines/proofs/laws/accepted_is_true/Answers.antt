use Rattle.pks_proof_lines.proofs.Accepted.{accepted_true}
use Rattle.pks_proof_lines.proofs.laws.accepted_is_true.Goals as goal

pub returns : goal.returns
returns c = λ p path w proof l typed steps start goes h. accepted_true p path w typed steps start goes proof l h
