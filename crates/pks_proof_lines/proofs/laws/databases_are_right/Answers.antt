use Rattle.pks_proof_lines.proofs.Recorded.{databases_right}
use Rattle.pks_proof_lines.proofs.laws.databases_are_right.Goals as goal

pub returns : goal.returns
returns c = λ p w h t. databases_right p w h t
