use Rattle.pks_laws_explain.proofs.Led.{history_shown}
use Rattle.pks_laws_explain.proofs.laws.what_is_derived_is_shown.Goals as goal

pub returns : goal.returns
returns c = λ p path d h v all closes leads. history_shown p path v all d h closes leads
