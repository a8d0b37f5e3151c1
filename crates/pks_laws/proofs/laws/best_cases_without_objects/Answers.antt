use Rattle.pks_laws.proofs.Choosing.{best_end}
use Rattle.pks_laws.proofs.laws.best_cases_without_objects.Goals as goal

pub returns : goal.returns
returns c = λ p h n x. best_end p h n x
