use Rattle.pks_laws.proofs.GoodPlans.{plan_good}
use Rattle.pks_laws.proofs.laws.plans_are_good.Goals as goal

pub returns : goal.returns
returns c = λ p t w justified typed plan compatible. plan_good p justified typed t plan w compatible
