use Rattle.std.proofs.Common.{◌≡◌, ◌+◌, ◌^◌, ◌<◌, drop, length}
use Rattle.pks_terms.specs.Proofs.{takings, nth}
use Rattle.pks_proof_lines.specs.ProofViews.{path_of}
use Rattle.pks_proof_cited.proofs.moment.side_taken.Given as goal

abbrev pub invariant-loop-turn : goal.invariant-loop-turn
invariant-loop-turn l =
    (0 < l.left)
    × (l.at + length (drop l.turn-index l.path) < 2 ^ 64)
    × (nth (takings l.at (path_of (drop l.turn-index l.path))) l.left ≡ nth (takings l.moment (path_of l.path)) l.n)
