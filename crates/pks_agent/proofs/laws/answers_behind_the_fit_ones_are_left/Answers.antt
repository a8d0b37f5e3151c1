use Rattle.pks_agent.proofs.Fitting.{takes_fit}
use Rattle.pks_agent.proofs.laws.answers_behind_the_fit_ones_are_left.Goals as goal

pub returns : goal.returns
returns c = λ s names t answers old new left result led. takes_fit s names t answers old new left result led
