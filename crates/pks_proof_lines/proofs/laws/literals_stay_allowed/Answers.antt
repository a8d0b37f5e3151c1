use Rattle.pks_proof_lines.proofs.More.{literal_more}
use Rattle.pks_proof_lines.proofs.laws.literals_stay_allowed.Goals as goal

pub returns : goal.returns
returns c = λ p path j k m l r more h. literal_more p path j k more m l r h
