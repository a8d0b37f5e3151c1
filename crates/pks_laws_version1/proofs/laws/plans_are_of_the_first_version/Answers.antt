use Rattle.pks_laws_version1.proofs.Plans.{plan_first, plan_from_first}
use Rattle.pks_laws_version1.proofs.laws.plans_are_of_the_first_version.Goals as goal

pub returns : goal.returns
returns c = λ p t v f. (plan_first p v f t, plan_from_first p v f t)
