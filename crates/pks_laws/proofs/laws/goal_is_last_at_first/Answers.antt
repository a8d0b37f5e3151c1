use Rattle.pks_laws.proofs.Versions.{first_met}
use Rattle.pks_laws.proofs.laws.goal_is_last_at_first.Goals as goal

pub returns : goal.returns
returns c = λ p h v. first_met p v h
