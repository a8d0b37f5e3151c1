use Rattle.std.proofs.Common.{◌≡◌, drop}
use Rattle.std.specs.List.{list_any}
use Rattle.pks_terms.specs.Judging.{by_cited}
use Rattle.pks_terms.specs.Rewriting.{swaps}
use Rattle.pks_proof_lines.specs.ProofViews.{fact_of, lines_of}
use Rattle.pks_proof_cited.specs.CitedViews.{judge_of}
use Rattle.pks_proof_cited.proofs.swapping.some_swaps.Given as goal

abbrev pub invariant-loop-n : goal.invariant-loop-n
invariant-loop-n l =
    list_any (λ x. swaps (judge_of l.c) l.c.moment x (fact_of l.f)) (by_cited (lines_of l.c.lines.now) (drop l.n-index l.numbers) l.c.moment)
    ≡ list_any (λ x. swaps (judge_of l.c) l.c.moment x (fact_of l.f)) (by_cited (lines_of l.c.lines.now) l.numbers l.c.moment)
