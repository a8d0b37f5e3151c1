use Rattle.pks_agent.proofs.Fitting.{comes_of_fit}
use Rattle.pks_agent.proofs.laws.lines_come_of_fit_answers.Goals as goal

pub returns : goal.returns
returns c = λ s names t answers text part. comes_of_fit s names t answers text part
