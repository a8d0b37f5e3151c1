use Rattle.pks_laws_explain.proofs.Gathered.{settle_rounds_shown}
use Rattle.pks_laws_explain.proofs.laws.settling_is_shown.Goals as goal

pub returns : goal.returns
returns c = λ p path n h s. settle_rounds_shown p path n h s
