use Rattle.std.proofs.Common.{◌≡◌, ◌++◌, map}
use Rattle.std.specs.HashMap.{keys}
use Rattle.pks_reader_problem.proofs.tables.names.Given as goal

abbrev pub invariant-loop-name : goal.invariant-loop-name
invariant-loop-name g l = map (λ t. t.now) l.names.items ++ map (λ k. k.now) l.name-iterator ≡ map (λ k. k.now) (keys l.table)
