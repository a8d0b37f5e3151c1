-- What the program's citations say.
use Rattle.pks_terms.specs.Judging.{Judge, by_cited}
use Rattle.pks_proof_cited.specs.declared.cited.Cited.{Cited}
use Rattle.pks_proof_lines.specs.ProofViews.{lines_of}

-- the facts of the cited lines, each at its moment
abbrev pub judge_of : Cited → Judge
judge_of c = by_cited (lines_of c.lines.now) c.numbers.now
