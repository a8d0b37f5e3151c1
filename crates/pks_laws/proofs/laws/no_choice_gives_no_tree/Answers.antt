use Rattle.pks_laws.proofs.Choosing.{best_without}
use Rattle.pks_laws.proofs.laws.no_choice_gives_no_tree.Goals as goal

pub returns : goal.returns
returns c = λ p h n m. best_without p h n m
