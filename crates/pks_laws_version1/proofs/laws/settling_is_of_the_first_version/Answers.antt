use Rattle.pks_laws_version1.proofs.Past.{settles_first, settles_from_first}
use Rattle.pks_laws_version1.proofs.laws.settling_is_of_the_first_version.Goals as goal

pub returns : goal.returns
returns c = λ p h x v f m. (settles_first p v f.parents h x m, settles_from_first p v f.parents h x m)
