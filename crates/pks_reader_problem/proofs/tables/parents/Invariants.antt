use Rattle.std.proofs.Common.{◌≡◌, ◌++◌, map, option_map}
use Rattle.std.specs.HashMap.{values}
use Rattle.pks_reader_problem.proofs.tables.parents.Given as goal

abbrev pub invariant-loop-said : goal.invariant-loop-said
invariant-loop-said l = map (option_map (λ t. t.0)) l.parents.items ++ l.said-iterator ≡ values l.table
