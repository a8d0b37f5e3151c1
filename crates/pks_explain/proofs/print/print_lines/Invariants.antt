use Rattle.std.proofs.Common.{◌≡◌, ◌++◌}
use Rattle.std.specs.List.{flat_map}
use Rattle.pks_terms.specs.Branching.{numbered}
use Rattle.pks_terms.specs.Explained.{proof_line_text}
use Rattle.pks_terms.specs.Printed.{line}
use Rattle.pks_terms.specs.Views.{names_of}
use Rattle.pks_proof_lines.specs.ProofViews.{lines_of}
use Rattle.pks_explain.proofs.Texts.{left_text}
use Rattle.pks_explain.proofs.print.print_lines.Given as goal

abbrev pub invariant-loop-i : goal.invariant-loop-i
invariant-loop-i l =
    l.out.items ++ left_text (λ q. line (proof_line_text (names_of l.p) q.0 q.1)) 1 (lines_of l.lines) l.i
    ≡ l.fn.out.items ++ flat_map (λ q. line (proof_line_text (names_of l.p) q.0 q.1)) (numbered 1 (lines_of l.lines))
