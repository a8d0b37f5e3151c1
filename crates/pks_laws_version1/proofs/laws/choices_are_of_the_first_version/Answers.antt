use Rattle.pks_laws_version1.proofs.Choices.{choices_same}
use Rattle.pks_laws_version1.proofs.laws.choices_are_of_the_first_version.Goals as goal

pub returns : goal.returns
returns c = λ p d v f m. choices_same p v f.parents d m
