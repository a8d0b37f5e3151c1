use Rattle.pks_laws.proofs.Versions.{first_cost}
use Rattle.pks_laws.proofs.laws.cost_is_depth_at_first.Goals as goal

pub returns : goal.returns
returns c = λ p t v. first_cost p v.costs t
