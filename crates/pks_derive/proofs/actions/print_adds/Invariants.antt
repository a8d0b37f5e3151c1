use Rattle.std.proofs.Common.{◌++◌, ◌≡◌, drop, map}
use Rattle.std.specs.List.{flat_map}
use Rattle.pks_terms.specs.Printed.{line, add_text}
use Rattle.pks_terms.specs.Views.{names_of}
use Rattle.pks_justify.specs.Cases.{adds_of}
use Rattle.pks_derive.proofs.actions.print_adds.Given as goal

abbrev pub invariant-loop-add : goal.invariant-loop-add
invariant-loop-add l = l.out.items ++ flat_map (λ x. line (add_text (names_of l.p) (map (λ t. t.now) l.parameters) x)) (adds_of (drop l.add-index l.adds)) ≡ l.fn.out.items ++ flat_map (λ x. line (add_text (names_of l.p) (map (λ t. t.now) l.parameters) x)) (adds_of l.adds)
