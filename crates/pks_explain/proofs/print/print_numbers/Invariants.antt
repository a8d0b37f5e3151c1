use Rattle.std.proofs.Common.{◌≡◌, ◌++◌, ◌∷◌, drop, decimal}
use Rattle.std.specs.List.{flat_map}
use Rattle.pks_explain.proofs.print.print_numbers.Given as goal

abbrev pub invariant-loop-n : goal.invariant-loop-n
invariant-loop-n l = l.out.items ++ flat_map (λ c. 32 ∷ decimal c) (drop l.n-index l.numbers) ≡ l.fn.out.items ++ flat_map (λ c. 32 ∷ decimal c) l.numbers
