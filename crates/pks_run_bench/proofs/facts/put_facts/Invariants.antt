use Rattle.std.proofs.Common.{◌≡◌, ◌++◌}
use Rattle.std.specs.List.{flat_map}
use Rattle.pks_terms.specs.Printed.{fact_line, numbers_from}
use Rattle.pks_run_bench.proofs.Numbered.{from}
use Rattle.pks_run_bench.proofs.facts.put_facts.Given as goal

abbrev pub invariant-loop-i : goal.invariant-loop-i
invariant-loop-i l = l.text.items ++ from (λ i. flat_map (fact_line i) (numbers_from 1 l.n)) l.n l.i ≡ l.fn.text.items ++ from (λ i. flat_map (fact_line i) (numbers_from 1 l.n)) l.n 1
