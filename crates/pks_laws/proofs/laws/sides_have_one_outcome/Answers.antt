use Rattle.pks_laws.proofs.Unique.{takes_one}
use Rattle.pks_laws.proofs.laws.sides_have_one_outcome.Goals as goal

pub returns : goal.returns
returns c = λ p h c side x y a b. takes_one p h c side x y a b
