use Rattle.std.proofs.Common.{◌≡◌, ◌++◌, map}
use Rattle.std.specs.HashMap.{values}
use Rattle.pks_reader_problem.proofs.tables.sorts.Given as goal

abbrev pub invariant-loop-own : goal.invariant-loop-own
invariant-loop-own l = map (λ t. t.0) l.sorts.items ++ l.own-iterator ≡ values l.table
