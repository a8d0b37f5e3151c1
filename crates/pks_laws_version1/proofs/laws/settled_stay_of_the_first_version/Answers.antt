use Rattle.pks_laws_version1.proofs.Past.{settled_first}
use Rattle.pks_laws_version1.proofs.laws.settled_stay_of_the_first_version.Goals as goal

pub returns : goal.returns
returns c = λ p h g v f m s. settled_first p v f h g m s
