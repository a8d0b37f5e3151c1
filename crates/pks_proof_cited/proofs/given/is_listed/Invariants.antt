use Rattle.std.proofs.Common.{◌≡◌, drop}
use Rattle.pks_terms.specs.Views.{atom_of}
use Rattle.pks_terms.specs.Reasons.{is_listed}
use Rattle.pks_lcw.specs.Entries.{atoms_of}
use Rattle.pks_proof_cited.proofs.given.is_listed.Given as goal

abbrev pub invariant-loop-a : goal.invariant-loop-a
invariant-loop-a l =
    is_listed (atoms_of (drop l.a-index l.atoms)) (atom_of l.b)
    ≡ is_listed (atoms_of l.atoms) (atom_of l.b)
