use Rattle.pks_plan.proofs.Declared.{same_text_same_tree}
use Rattle.pks_plan.proofs.laws.trees_of_same_text_are_same.Goals as goal

pub returns : goal.returns
returns c = λ p names t u own a b e. same_text_same_tree p names own t u a b e
