use Rattle.pks_search_distance.proofs.Running.{later_may}
use Rattle.pks_search_distance.proofs.laws.later_moments_keep_the_world.Goals as goal

pub returns : goal.returns
returns c = λ p before i h w m. later_may p before i h w m
