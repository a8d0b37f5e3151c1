use Rattle.pks_search_distance.proofs.Running.{start_may}
use Rattle.pks_search_distance.proofs.laws.compatible_worlds_may_be_first.Goals as goal

pub returns : goal.returns
returns c = λ p d w c k. start_may p d w c k
