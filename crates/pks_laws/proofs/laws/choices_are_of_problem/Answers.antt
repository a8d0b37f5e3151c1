use Rattle.pks_laws.proofs.TreesOf.{choices_of}
use Rattle.pks_laws.proofs.laws.choices_are_of_problem.Goals as goal

pub returns : goal.returns
returns c = λ p d c m i. choices_of p d m c i
