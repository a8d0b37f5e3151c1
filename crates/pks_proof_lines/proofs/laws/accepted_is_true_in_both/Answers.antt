use Rattle.pks_proof_lines.proofs.Accepted.{accepted_true}
use Rattle.pks_proof_lines.proofs.laws.accepted_is_true_in_both.Goals as goal

pub returns : goal.returns
returns c = λ p path w w' proof l typed steps start goes goes' seen h. (accepted_true p path w typed steps start.first goes proof l h, accepted_true p path w' typed steps start.second goes' proof l h)
