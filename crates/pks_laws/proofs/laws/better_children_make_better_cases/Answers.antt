use Rattle.pks_laws.proofs.BestTree.{before_cases}
use Rattle.pks_laws.proofs.laws.better_children_make_better_cases.Goals as goal

pub returns : goal.returns
returns c = λ p x k m b. before_cases p x k m b
