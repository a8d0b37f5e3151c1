use Rattle.pks_laws.proofs.Choosing.{best_next}
use Rattle.pks_laws.proofs.laws.better_of_two_is_best_of_both.Goals as goal

pub returns : goal.returns
returns c = λ p h n cs c a b f g. best_next p h n cs c a b f g
