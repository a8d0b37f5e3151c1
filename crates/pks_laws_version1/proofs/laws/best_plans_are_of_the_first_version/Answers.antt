use Rattle.pks_laws_version1.proofs.Plans.{best_first, best_from_first}
use Rattle.pks_laws_version1.proofs.laws.best_plans_are_of_the_first_version.Goals as goal

pub returns : goal.returns
returns c = λ p n best v f. (best_first p v f n best, best_from_first p v f n best)
