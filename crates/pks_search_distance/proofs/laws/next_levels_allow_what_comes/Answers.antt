use Rattle.pks_search_distance.proofs.Stepping.{next_allows}
use Rattle.pks_search_distance.proofs.laws.next_levels_allow_what_comes.Goals as goal

pub returns : goal.returns
returns c = λ p m n w i x a d. next_allows p m n w i x a d
