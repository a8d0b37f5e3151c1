use Rattle.pks_laws_explain.proofs.Growing.{shown_proof}
use Rattle.pks_laws_explain.proofs.laws.what_is_shown_has_a_proof.Goals as goal

pub returns : goal.returns
returns c = λ p path l s. shown_proof p path l s
