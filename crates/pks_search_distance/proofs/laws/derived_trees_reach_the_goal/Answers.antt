use Rattle.pks_search_distance.proofs.Running.{reach_from}
use Rattle.pks_search_distance.proofs.laws.derived_trees_reach_the_goal.Goals as goal

pub returns : goal.returns
returns c = λ p h w t j s m k. reach_from p j s t h w m k
