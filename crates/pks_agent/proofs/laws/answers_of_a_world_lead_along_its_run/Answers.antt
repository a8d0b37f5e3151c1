use Rattle.pks_agent.proofs.AlongRuns.{leads_along}
use Rattle.pks_agent.proofs.laws.answers_of_a_world_lead_along_its_run.Goals as goal

pub returns : goal.returns
returns c = λ p names t w valid own short of world. leads_along p names valid own short t w of world
