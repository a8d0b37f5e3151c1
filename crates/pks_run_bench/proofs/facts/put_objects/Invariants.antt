use Rattle.std.proofs.Common.{◌≡◌, ◌++◌, ◌∷◌}
use Rattle.pks_terms.specs.Printed.{numbered_object}
use Rattle.pks_run_bench.proofs.Numbered.{from}
use Rattle.pks_run_bench.proofs.facts.put_objects.Given as goal

abbrev pub invariant-loop-i : goal.invariant-loop-i
invariant-loop-i l = l.text.items ++ from (λ i. 32 ∷ numbered_object i) l.n l.i ≡ l.fn.text.items ++ from (λ i. 32 ∷ numbered_object i) l.n 1
