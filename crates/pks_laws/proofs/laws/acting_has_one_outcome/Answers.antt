use Rattle.pks_laws.proofs.Unique.{acts_one}
use Rattle.pks_laws.proofs.laws.acting_has_one_outcome.Goals as goal

pub returns : goal.returns
returns c = λ p h i x y a b. acts_one p h i x y a b
