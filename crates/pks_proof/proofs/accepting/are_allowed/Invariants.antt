use Rattle.std.proofs.Common.{◌≡◌, ◌+◌, ◌^◌, ◌<◌, ◌&&◌, drop, length}
use Rattle.std.specs.List.{list_all}
use Rattle.pks_terms.specs.Branching.{numbered}
use Rattle.pks_terms.specs.Accepting.{are_before, is_allowed_line}
use Rattle.pks_terms.specs.Views.{problem_of}
use Rattle.pks_proof_lines.specs.ProofViews.{lines_of, path_of}
use Rattle.pks_proof.proofs.accepting.are_allowed.Given as goal

abbrev pub invariant-loop-line : goal.invariant-loop-line
invariant-loop-line l =
    (l.number + length (drop l.line-index l.rest) < 2 ^ 64)
    × (list_all (λ q. are_before q.0 q.1.cites && is_allowed_line (problem_of l.p) (path_of l.path) (lines_of l.lines) q.1) (numbered l.number (lines_of (drop l.line-index l.rest)))
    ≡ list_all (λ q. are_before q.0 q.1.cites && is_allowed_line (problem_of l.p) (path_of l.path) (lines_of l.lines) q.1) (numbered l.n (lines_of l.rest)))
