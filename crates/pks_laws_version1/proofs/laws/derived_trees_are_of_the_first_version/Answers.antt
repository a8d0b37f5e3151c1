use Rattle.pks_laws_version1.proofs.Plans.{derives_first}
use Rattle.pks_laws_version1.proofs.laws.derived_trees_are_of_the_first_version.Goals as goal

pub returns : goal.returns
returns c = λ p h t v f m. derives_first p v f h m t
