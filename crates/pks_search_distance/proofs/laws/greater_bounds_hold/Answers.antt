use Rattle.pks_search_distance.proofs.Meeting.{greater_bounds}
use Rattle.pks_search_distance.proofs.laws.greater_bounds_hold.Goals as goal

pub returns : goal.returns
returns c p w a b f g = greater_bounds p w a b f g
