-- The names of parameters, as they lie in memory.
use Rattle.std.specs.Prelude.{List, map}
use Rattle.pks_terms.specs.declared.problem.Problem.{Problem}
use Rattle.pks_terms.specs.Printed.{Text}

-- the names of the parameters of each action, without their question marks
abbrev pub parameters_of : Problem → List (List Text)
parameters_of p = map (λ names. map (λ t. t.now) names) p.names.params
