use Rattle.std.proofs.Common.{◌≡◌, drop}
use Rattle.std.specs.List.{list_all}
use Rattle.pks_lcw.specs.Entries.{atoms_of}
use Rattle.pks_proof_cited.specs.Givens.{starts_of, is_taken}
use Rattle.pks_proof_cited.proofs.given.are_taken.Given as goal

abbrev pub invariant-loop-item : goal.invariant-loop-item
invariant-loop-item l =
    list_all (is_taken l.pred.0 (atoms_of l.atoms)) (starts_of (drop l.item-index l.items))
    ≡ list_all (is_taken l.pred.0 (atoms_of l.atoms)) (starts_of l.items)
