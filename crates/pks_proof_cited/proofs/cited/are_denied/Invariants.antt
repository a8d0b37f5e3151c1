use Rattle.std.proofs.Common.{◌≡◌, drop, map}
use Rattle.pks_terms.specs.Syntax.{negated}
use Rattle.pks_terms.specs.Views.{literals_in}
use Rattle.pks_terms.specs.Judging.{are_cited}
use Rattle.pks_proof_cited.specs.CitedViews.{judge_of}
use Rattle.pks_proof_cited.proofs.cited.are_denied.Given as goal

abbrev pub invariant-loop-l : goal.invariant-loop-l
invariant-loop-l l =
    are_cited (judge_of l.c) l.c.moment (map negated (literals_in (drop l.l-index l.ls)))
    ≡ are_cited (judge_of l.c) l.c.moment (map negated (literals_in l.ls))
