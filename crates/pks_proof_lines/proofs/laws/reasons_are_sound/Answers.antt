use Rattle.pks_proof_lines.proofs.Accepted.{allowed_true}
use Rattle.pks_proof_lines.proofs.laws.reasons_are_sound.Goals as goal

pub returns : goal.returns
returns c = λ p path w j m f r typed steps start goes right h. allowed_true p path w typed steps start goes j right m f r h
