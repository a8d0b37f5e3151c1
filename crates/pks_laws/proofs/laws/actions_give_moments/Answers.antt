use Rattle.pks_laws.proofs.SearchStates.{action_moment}
use Rattle.pks_laws.proofs.laws.actions_give_moments.Goals as goal

pub returns : goal.returns
returns c = λ p d e i v m fit progress. action_moment p v d e i m fit progress
