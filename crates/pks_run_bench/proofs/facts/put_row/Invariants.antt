use Rattle.std.proofs.Common.{◌≡◌, ◌++◌}
use Rattle.pks_terms.specs.Printed.{fact_line}
use Rattle.pks_run_bench.proofs.Numbered.{from}
use Rattle.pks_run_bench.proofs.facts.put_row.Given as goal

abbrev pub invariant-loop-j : goal.invariant-loop-j
invariant-loop-j l = l.text.items ++ from (fact_line l.i) l.n l.j ≡ l.fn.text.items ++ from (fact_line l.i) l.n 1
