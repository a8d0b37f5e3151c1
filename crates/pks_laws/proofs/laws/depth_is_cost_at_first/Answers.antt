use Rattle.pks_laws.proofs.Versions.{first_order}
use Rattle.pks_laws.proofs.laws.depth_is_cost_at_first.Goals as goal

pub returns : goal.returns
returns c = λ p t u v. first_order p v t u
