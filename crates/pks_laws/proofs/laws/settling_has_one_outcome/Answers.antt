use Rattle.pks_laws.proofs.Unique.{settles_one}
use Rattle.pks_laws.proofs.laws.settling_has_one_outcome.Goals as goal

pub returns : goal.returns
returns c = λ p h x y a b. settles_one p h x y a b
