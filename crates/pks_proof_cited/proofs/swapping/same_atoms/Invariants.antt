use Rattle.std.proofs.Common.{◌≡◌, drop}
use Rattle.pks_terms.specs.Rewriting.{same_atoms}
use Rattle.pks_lcw.specs.Entries.{atoms_of}
use Rattle.pks_proof_cited.proofs.swapping.same_atoms.Given as goal

abbrev pub invariant-loop-x : goal.invariant-loop-x
invariant-loop-x l =
    same_atoms (atoms_of (drop l.x-index l.g)) (atoms_of l.left)
    ≡ same_atoms (atoms_of l.g) (atoms_of l.h)
