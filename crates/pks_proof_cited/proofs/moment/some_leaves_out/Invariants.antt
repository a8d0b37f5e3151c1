use Rattle.std.proofs.Common.{◌≡◌, drop}
use Rattle.std.specs.List.{list_any}
use Rattle.pks_terms.specs.Views.{relation_of, sides_of}
use Rattle.pks_terms.specs.Judging.{is_region_that, by_cited}
use Rattle.pks_terms.specs.Reasons.{leaves_out}
use Rattle.pks_proof_lines.specs.ProofViews.{lines_of}
use Rattle.pks_proof_cited.specs.CitedViews.{judge_of}
use Rattle.pks_proof_cited.proofs.moment.some_leaves_out.Given as goal

abbrev pub invariant-loop-n : goal.invariant-loop-n
invariant-loop-n l =
    list_any (is_region_that (leaves_out (judge_of l.c) l.c.moment (relation_of l.l.atom) (sides_of l.l.atom) l.l.positive)) (by_cited (lines_of l.c.lines.now) (drop l.n-index l.numbers) l.c.moment)
    ≡ list_any (is_region_that (leaves_out (judge_of l.c) l.c.moment (relation_of l.l.atom) (sides_of l.l.atom) l.l.positive)) (by_cited (lines_of l.c.lines.now) l.numbers l.c.moment)
