use Rattle.std.proofs.Common.{◌≡◌, drop}
use Rattle.pks_terms.specs.Views.{literals_in}
use Rattle.pks_terms.specs.Judging.{are_cited}
use Rattle.pks_proof_cited.specs.CitedViews.{judge_of}
use Rattle.pks_proof_cited.proofs.cited.are_cited.Given as goal

abbrev pub invariant-loop-l : goal.invariant-loop-l
invariant-loop-l l =
    are_cited (judge_of l.c) l.c.moment (literals_in (drop l.l-index l.ls))
    ≡ are_cited (judge_of l.c) l.c.moment (literals_in l.ls)
