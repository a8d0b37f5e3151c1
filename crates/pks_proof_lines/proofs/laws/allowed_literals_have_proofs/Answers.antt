use Rattle.pks_proof_lines.proofs.Building.{shown_accepted}
use Rattle.pks_proof_lines.proofs.laws.allowed_literals_have_proofs.Goals as goal

pub returns : goal.returns
returns c = λ p path front back line l h m f. shown_accepted p path front back line l h m f
