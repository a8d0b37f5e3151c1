use Rattle.pks_laws_explain.proofs.Began.{initial_shown}
use Rattle.pks_laws_explain.proofs.laws.start_is_shown.Goals as goal

pub returns : goal.returns
returns c = λ p path v. initial_shown p path v
