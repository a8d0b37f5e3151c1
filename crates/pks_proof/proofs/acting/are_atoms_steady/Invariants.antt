use Rattle.std.proofs.Common.{◌≡◌, drop}
use Rattle.std.specs.List.{list_all}
use Rattle.pks_terms.specs.Reasons.{are_steady}
use Rattle.pks_lcw.specs.Entries.{atoms_of}
use Rattle.pks_proof.specs.Doings.{effects_by, before_in, moment_in}
use Rattle.pks_proof.proofs.acting.are_atoms_steady.Given as goal

abbrev pub invariant-loop-a : goal.invariant-loop-a
invariant-loop-a l =
    list_all (λ a. are_steady (before_in l.d) (moment_in l.d) (effects_by l.d) a.arguments) (atoms_of (drop l.a-index l.atoms))
    ≡ list_all (λ a. are_steady (before_in l.d) (moment_in l.d) (effects_by l.d) a.arguments) (atoms_of l.atoms)
