use Rattle.std.proofs.Common.{◌≡◌, ◌&&◌, ◌==◌, drop}
use Rattle.std.specs.List.{list_all}
use Rattle.pks_lcw.specs.Entries.{atoms_of}
use Rattle.pks_proof_cited.specs.Givens.{starts_of, is_said}
use Rattle.pks_proof_cited.proofs.given.are_said.Given as goal

abbrev pub invariant-loop-a : goal.invariant-loop-a
invariant-loop-a l =
    list_all (λ a. (a.predicate == l.pred.0) && is_said (starts_of l.items) a) (atoms_of (drop l.a-index l.atoms))
    ≡ list_all (λ a. (a.predicate == l.pred.0) && is_said (starts_of l.items) a) (atoms_of l.atoms)
