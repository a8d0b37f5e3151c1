use Rattle.std.proofs.Common.{◌≡◌, drop}
use Rattle.std.specs.List.{list_any}
use Rattle.pks_terms.specs.Views.{term_of}
use Rattle.pks_terms.specs.Judging.{by_cited}
use Rattle.pks_proof_lines.specs.ProofViews.{lines_of}
use Rattle.pks_proof_cited.specs.CitedViews.{judge_of}
use Rattle.pks_proof_cited.specs.Walks.{bridges}
use Rattle.pks_proof_cited.proofs.forms.some_bridges.Given as goal

abbrev pub invariant-loop-n : goal.invariant-loop-n
invariant-loop-n l =
    list_any (bridges (judge_of l.c) l.c.moment (term_of l.t) (term_of l.r)) (by_cited (lines_of l.c.lines.now) (drop l.n-index l.numbers) l.c.moment)
    ≡ list_any (bridges (judge_of l.c) l.c.moment (term_of l.t) (term_of l.r)) (by_cited (lines_of l.c.lines.now) l.numbers l.c.moment)
