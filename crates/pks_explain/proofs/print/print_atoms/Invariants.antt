use Rattle.std.proofs.Common.{◌≡◌, ◌++◌, ◌∷◌, map, drop}
use Rattle.std.specs.List.{flat_map}
use Rattle.pks_terms.specs.Printed.{atom_text}
use Rattle.pks_terms.specs.Views.{names_of}
use Rattle.pks_lcw.specs.Entries.{atoms_of}
use Rattle.pks_explain.proofs.print.print_atoms.Given as goal

abbrev pub invariant-loop-a : goal.invariant-loop-a
invariant-loop-a l =
    l.out.items ++ flat_map (λ part. 32 ∷ part) (map (atom_text (names_of l.p)) (atoms_of (drop l.a-index l.atoms)))
    ≡ l.fn.out.items ++ flat_map (λ part. 32 ∷ part) (map (atom_text (names_of l.p)) (atoms_of l.atoms))
