use Rattle.pks_laws.proofs.Choosing.{best_branch}
use Rattle.pks_laws.proofs.laws.best_sides_make_best_branch.Goals as goal

pub returns : goal.returns
returns c = λ p h n c y y' a b member undecided on_true on_false f g. best_branch p h n c y y' a b member undecided on_true on_false f g
