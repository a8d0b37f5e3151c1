use Rattle.pks_laws_version1.proofs.Plans.{met_same}
use Rattle.pks_laws_version1.proofs.laws.goals_are_of_the_first_version.Goals as goal

pub returns : goal.returns
returns c = λ p h v f m. met_same p v f h m
