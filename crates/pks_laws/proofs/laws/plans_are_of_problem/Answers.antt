use Rattle.pks_laws.proofs.TreesOf.{plan_of}
use Rattle.pks_laws.proofs.laws.plans_are_of_problem.Goals as goal

pub returns : goal.returns
returns c = λ p t v plan. plan_of p v t plan
