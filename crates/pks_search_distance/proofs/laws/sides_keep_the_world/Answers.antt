use Rattle.pks_search_distance.proofs.Running.{taken_may}
use Rattle.pks_search_distance.proofs.laws.sides_keep_the_world.Goals as goal

pub returns : goal.returns
returns c = λ p h w c side x m member so t. taken_may p h w c side x m member so t
