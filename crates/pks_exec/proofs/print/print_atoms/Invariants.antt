use Rattle.std.proofs.Common.{◌≡◌, ◌++◌, ◌∷◌, map, drop}
use Rattle.std.specs.List.{flat_map}
use Rattle.pks_terms.specs.Views.{names_of}
use Rattle.pks_terms.specs.Printed.{objects_text}
use Rattle.pks_world.specs.Observed.{objects_in}
use Rattle.pks_exec.proofs.print.print_atoms.Given as goal

abbrev pub invariant-loop-a : goal.invariant-loop-a
invariant-loop-a l =
    l.out.items ++ flat_map (λ ds. 32 ∷ objects_text (names_of l.p) l.pred.0 ds) (map objects_in (drop l.a-index l.atoms))
    ≡ l.fn.out.items ++ flat_map (λ ds. 32 ∷ objects_text (names_of l.p) l.pred.0 ds) (map objects_in l.atoms)
