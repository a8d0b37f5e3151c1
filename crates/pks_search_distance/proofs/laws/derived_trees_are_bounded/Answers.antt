use Rattle.pks_search_distance.proofs.Running.{reach_from}
use Rattle.pks_search_distance.proofs.laws.derived_trees_are_bounded.Goals as goal

pub returns : goal.returns
returns c = λ p h w t o j s m k b. b _ (reach_from p j s t h w m k)
