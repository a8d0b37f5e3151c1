use Rattle.std.proofs.Common.{◌≡◌, drop}
use Rattle.std.specs.List.{list_all}
use Rattle.pks_terms.specs.Reasons.{is_listed}
use Rattle.pks_lcw.specs.Entries.{atoms_of}
use Rattle.pks_proof.proofs.region.are_listed.Given as goal

abbrev pub invariant-loop-b : goal.invariant-loop-b
invariant-loop-b l =
    list_all (is_listed (atoms_of l.atoms)) (atoms_of (drop l.b-index l.bs))
    ≡ list_all (is_listed (atoms_of l.atoms)) (atoms_of l.bs)
