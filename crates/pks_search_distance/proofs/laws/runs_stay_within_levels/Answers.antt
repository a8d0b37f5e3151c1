use Rattle.pks_search_distance.proofs.Bounding.{levels_hold}
use Rattle.pks_search_distance.proofs.laws.runs_stay_within_levels.Goals as goal

pub returns : goal.returns
returns c = λ p w level k l far r. levels_hold p w level l k far r
