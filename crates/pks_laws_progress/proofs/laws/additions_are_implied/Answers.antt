use Rattle.pks_laws_progress.proofs.Following.{addition_implied}
use Rattle.pks_laws_progress.proofs.laws.additions_are_implied.Goals as goal

pub returns : goal.returns
returns c = λ s d a l inhabited follows i. addition_implied s inhabited d a follows l i
