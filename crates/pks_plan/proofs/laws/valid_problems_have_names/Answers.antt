use Rattle.pks_plan.proofs.Declared.{names_of_valid}
use Rattle.pks_plan.proofs.laws.valid_problems_have_names.Goals as goal

pub returns : goal.returns
returns c = λ p v. names_of_valid p v
