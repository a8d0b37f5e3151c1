use Rattle.pks_search_distance.proofs.Running.{reach_cases}
use Rattle.pks_search_distance.proofs.laws.cases_are_no_actions.Goals as goal

pub returns : goal.returns
returns c = λ p h w x k j s m d. reach_cases p j s x k h w m d
