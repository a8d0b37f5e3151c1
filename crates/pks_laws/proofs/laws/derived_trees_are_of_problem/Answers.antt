use Rattle.pks_laws.proofs.TreesOf.{derived_of}
use Rattle.pks_laws.proofs.laws.derived_trees_are_of_problem.Goals as goal

pub returns : goal.returns
returns c = λ p h t v m d. derived_of p v h m t d
