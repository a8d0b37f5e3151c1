use Rattle.pks_agent.proofs.Widths.{plan_counts}
use Rattle.pks_agent.proofs.laws.dialogues_of_plans_have_few_lines.Goals as goal

pub returns : goal.returns
returns c = λ p names t answers valid plan deep. plan_counts p valid names t plan deep answers
