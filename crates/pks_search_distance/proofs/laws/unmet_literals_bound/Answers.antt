use Rattle.pks_search_distance.proofs.Meeting.{fewest_bounds}
use Rattle.pks_search_distance.proofs.laws.unmet_literals_bound.Goals as goal

pub returns : goal.returns
returns c p w ls m wanted few = fewest_bounds p ls m few wanted w
