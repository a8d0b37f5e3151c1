use Rattle.std.proofs.Common.{◌≡◌, drop}
use Rattle.pks_terms.specs.Judging.{relies, by_cited}
use Rattle.pks_proof_lines.specs.ProofViews.{fact_of, lines_of}
use Rattle.pks_proof_cited.proofs.cited.some_says.Given as goal

abbrev pub invariant-loop-n : goal.invariant-loop-n
invariant-loop-n l =
    relies (by_cited (lines_of l.lines) (drop l.n-index l.numbers)) l.moment (fact_of l.fact)
    ≡ relies (by_cited (lines_of l.lines) l.numbers) l.moment (fact_of l.fact)
