use Rattle.pks_search_distance.proofs.Meeting.{reaching_meets}
use Rattle.pks_search_distance.proofs.laws.runs_meet_what_is_unmet.Goals as goal

pub returns : goal.returns
returns c p w ls m k wanted few r = reaching_meets p ls m few wanted w k r
