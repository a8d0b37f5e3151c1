use Rattle.std.proofs.Common.{◌≡◌, drop}
use Rattle.pks_terms.specs.Views.{atom_of}
use Rattle.pks_proof_cited.specs.Givens.{starts_of, is_said}
use Rattle.pks_proof_cited.proofs.given.is_said.Given as goal

abbrev pub invariant-loop-item : goal.invariant-loop-item
invariant-loop-item l =
    is_said (starts_of (drop l.item-index l.items)) (atom_of l.a)
    ≡ is_said (starts_of l.items) (atom_of l.a)
