use Rattle.pks_laws.proofs.Grounding.{grounded_of}
use Rattle.pks_laws.proofs.laws.ground_instances_are_of_problem.Goals as goal

pub returns : goal.returns
returns c = λ p w i world m. grounded_of p w i world m
