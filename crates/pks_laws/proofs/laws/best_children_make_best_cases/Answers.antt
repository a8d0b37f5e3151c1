use Rattle.pks_laws.proofs.Choosing.{best_cases}
use Rattle.pks_laws.proofs.laws.best_children_make_best_cases.Goals as goal

pub returns : goal.returns
returns c = λ p h n x c member split f. best_cases p h n x c member split f
