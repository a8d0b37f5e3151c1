use Rattle.pks_laws_version1.proofs.Choices.{assumes_first, assumes_from_first}
use Rattle.pks_laws_version1.proofs.laws.sides_are_of_the_first_version.Goals as goal

pub returns : goal.returns
returns c = λ p d choice side o f m i k. (assumes_first p.signature f.parents d m choice side o i k, assumes_from_first p.signature f.parents d m choice side o i k)
