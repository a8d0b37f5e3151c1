use Rattle.pks_laws.proofs.BestTree.{before_branch}
use Rattle.pks_laws.proofs.laws.better_sides_make_better_branch.Goals as goal

pub returns : goal.returns
returns c = λ p c t t' u u' a b. before_branch p c t t' u u' a b
