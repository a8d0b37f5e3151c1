use Rattle.pks_laws.proofs.GoodPlans.{plan_remembers}
use Rattle.pks_laws.proofs.laws.plans_remember.Goals as goal

pub returns : goal.returns
returns c = λ p t d w justified typed closes derives compatible. plan_remembers p justified typed t d closes derives w compatible
