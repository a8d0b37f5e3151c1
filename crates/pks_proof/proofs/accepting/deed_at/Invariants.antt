use Rattle.std.proofs.Common.{◌≡◌, drop, slice_get}
use Rattle.pks_terms.specs.Proofs.{deeds}
use Rattle.pks_proof_lines.specs.ProofViews.{path_of}
use Rattle.pks_proof.proofs.accepting.deed_at.Given as goal

abbrev pub invariant-loop-turn : goal.invariant-loop-turn
invariant-loop-turn l =
    slice_get (deeds (path_of (drop l.turn-index l.path))) l.left ≡ slice_get (deeds (path_of l.path)) l.moment
