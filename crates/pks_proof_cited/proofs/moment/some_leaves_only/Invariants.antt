use Rattle.std.proofs.Common.{◌≡◌, drop, true}
use Rattle.std.specs.List.{list_any}
use Rattle.pks_terms.specs.Views.{literal_of}
use Rattle.pks_terms.specs.Judging.{is_group_that, by_cited}
use Rattle.pks_proof_lines.specs.ProofViews.{lines_of}
use Rattle.pks_proof_cited.specs.CitedViews.{judge_of}
use Rattle.pks_proof_cited.specs.Walks.{left_from}
use Rattle.pks_proof_cited.proofs.moment.some_leaves_only.Given as goal

abbrev pub invariant-loop-n : goal.invariant-loop-n
invariant-loop-n l =
    list_any (is_group_that (left_from (judge_of l.c) l.c.moment (literal_of l.l) true)) (by_cited (lines_of l.c.lines.now) (drop l.n-index l.numbers) l.c.moment)
    ≡ list_any (is_group_that (left_from (judge_of l.c) l.c.moment (literal_of l.l) true)) (by_cited (lines_of l.c.lines.now) l.numbers l.c.moment)
