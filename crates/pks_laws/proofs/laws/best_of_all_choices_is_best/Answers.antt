use Rattle.pks_laws.proofs.Choosing.{best_all}
use Rattle.pks_laws.proofs.laws.best_of_all_choices_is_best.Goals as goal

pub returns : goal.returns
returns c = λ p h n o b. best_all p h n o b
