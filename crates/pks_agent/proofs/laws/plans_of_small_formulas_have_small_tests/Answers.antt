use Rattle.pks_agent.proofs.SmallTests.{plan_small}
use Rattle.pks_agent.proofs.laws.plans_of_small_formulas_have_small_tests.Goals as goal

pub returns : goal.returns
returns c = λ p t small plan. plan_small p small t plan
