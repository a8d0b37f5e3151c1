use Rattle.std.proofs.Common.{◌≡◌, ◌+◌, ◌≤◌, drop, length}
use Rattle.pks_terms.specs.Proofs.{final_moment}
use Rattle.pks_proof_lines.specs.ProofViews.{path_of}
use Rattle.pks_proof.proofs.accepting.final_moment.Given as goal

abbrev pub invariant-loop-turn : goal.invariant-loop-turn
invariant-loop-turn l =
    (l.moment + length (drop l.turn-index l.path) ≤ length l.path)
    × (l.moment + final_moment (path_of (drop l.turn-index l.path)) ≡ final_moment (path_of l.path))
