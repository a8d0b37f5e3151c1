use Rattle.std.proofs.Common.{◌≡◌, drop}
use Rattle.std.specs.List.{flat_map}
use Rattle.pks_terms.specs.Objects.{are_objects}
use Rattle.pks_lcw.specs.Entries.{atoms_of}
use Rattle.pks_history_forget.proofs.kept.atoms_are_of_objects.Given as goal

abbrev pub invariant-loop-a : goal.invariant-loop-a
invariant-loop-a l =
    are_objects (flat_map (λ a. a.arguments) (atoms_of (drop l.a-index l.atoms)))
    ≡ are_objects (flat_map (λ a. a.arguments) (atoms_of l.atoms))
