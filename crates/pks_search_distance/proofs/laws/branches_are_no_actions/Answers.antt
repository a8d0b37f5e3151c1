use Rattle.pks_search_distance.proofs.Running.{reach_branch}
use Rattle.pks_search_distance.proofs.laws.branches_are_no_actions.Goals as goal

pub returns : goal.returns
returns c = λ p h w c t u j s m d. reach_branch p j s c t u h w m d
