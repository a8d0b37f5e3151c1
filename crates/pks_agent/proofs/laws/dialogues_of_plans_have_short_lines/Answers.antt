use Rattle.pks_agent.proofs.Widths.{short_plan}
use Rattle.pks_agent.proofs.laws.dialogues_of_plans_have_short_lines.Goals as goal

pub returns : goal.returns
returns c = λ p names t answers valid short plan small deep. short_plan p valid names short t plan small deep answers
