use Rattle.pks_search_distance.proofs.Running.{acted_may}
use Rattle.pks_search_distance.proofs.laws.actions_lead_on.Goals as goal

pub returns : goal.returns
returns c = λ p h w i x j s m member a. acted_may p j s h w i x m member a
