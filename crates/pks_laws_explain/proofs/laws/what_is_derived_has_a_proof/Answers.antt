use Rattle.pks_laws_explain.proofs.Led.{proof_of}
use Rattle.pks_laws_explain.proofs.laws.what_is_derived_has_a_proof.Goals as goal

pub returns : goal.returns
returns c = λ p path d h l v all closes leads o holding. proof_of p path v all d h l closes leads o holding
