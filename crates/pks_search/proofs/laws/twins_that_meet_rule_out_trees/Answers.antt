use Rattle.pks_search.proofs.Twinned.{none_of_one}
use Rattle.pks_search.proofs.laws.twins_that_meet_rule_out_trees.Goals as goal

pub returns : goal.returns
returns c = λ p h w t j s m d. none_of_one p j s t h w m d
