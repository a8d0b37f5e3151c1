use Rattle.pks_agent.proofs.AlongRuns.{plan_led}
use Rattle.pks_agent.proofs.laws.plans_are_led_to_the_goal_by_what_is_known.Goals as goal

pub returns : goal.returns
returns c = λ p names t w valid own short none plan compatible. plan_led p names valid own short t w none plan compatible
