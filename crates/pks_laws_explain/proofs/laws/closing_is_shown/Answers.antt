use Rattle.pks_laws_explain.proofs.Gathered.{rounds_shown}
use Rattle.pks_laws_explain.proofs.laws.closing_is_shown.Goals as goal

pub returns : goal.returns
returns c = λ p path m n d within s. rounds_shown p path m within n d s
