use Rattle.pks_search_distance.proofs.Meeting.{fewest_reached}
use Rattle.pks_search_distance.proofs.laws.unmet_landmarks_bound.Goals as goal

pub returns : goal.returns
returns c p w cs m are few = fewest_reached p cs m few are w
