use Rattle.std.proofs.Common.{◌≡◌, ◌+◌, ◌^◌, ◌<◌, ◌||◌, ◌==◌, drop, length}
use Rattle.std.specs.List.{list_any, list_all}
use Rattle.pks_terms.specs.Branching.{numbered}
use Rattle.pks_proof_lines.specs.ProofViews.{lines_of}
use Rattle.pks_proof.proofs.accepting.are_used.Given as goal

abbrev pub invariant-loop-line : goal.invariant-loop-line
invariant-loop-line l =
    (l.number + length (drop l._line-index l.rest) < 2 ^ 64)
    × (list_all (λ q. (q.0 == length (lines_of l.lines)) || list_any (λ line. list_any (λ c. c == q.0) line.cites) (lines_of l.lines)) (numbered l.number (lines_of (drop l._line-index l.rest)))
    ≡ list_all (λ q. (q.0 == length (lines_of l.lines)) || list_any (λ line. list_any (λ c. c == q.0) line.cites) (lines_of l.lines)) (numbered l.n (lines_of l.rest)))
