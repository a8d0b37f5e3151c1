use Rattle.pks_laws_explain.proofs.Searched.{best}
use Rattle.pks_laws_explain.proofs.answers.each_valid_problem_has_a_best_plan_or_none.Goals as goal

pub returns : goal.returns
returns c = λ p n valid. best p valid n
