use Rattle.std.proofs.Common.{◌≡◌, ◌==◌, drop}
use Rattle.std.specs.List.{list_any}
use Rattle.pks_proof_lines.specs.ProofViews.{lines_of}
use Rattle.pks_proof.proofs.accepting.is_cited.Given as goal

abbrev pub invariant-loop-line : goal.invariant-loop-line
invariant-loop-line l =
    list_any (λ line. list_any (λ c. c == l.n) line.cites) (lines_of (drop l.line-index l.lines))
    ≡ list_any (λ line. list_any (λ c. c == l.n) line.cites) (lines_of l.lines)
