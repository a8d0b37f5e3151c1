use Rattle.pks_laws_version1.proofs.Plans.{initial_first}
use Rattle.pks_laws_version1.proofs.laws.start_is_of_the_first_version.Goals as goal

pub returns : goal.returns
returns c = λ p v f. initial_first p v f
