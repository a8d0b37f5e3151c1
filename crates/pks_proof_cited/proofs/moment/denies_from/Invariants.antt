use Rattle.std.proofs.Common.{◌≡◌, drop}
use Rattle.pks_terms.specs.Views.{literal_of, literals_in}
use Rattle.pks_proof_cited.specs.CitedViews.{judge_of}
use Rattle.pks_proof_cited.specs.Walks.{denied_from}
use Rattle.pks_proof_cited.proofs.moment.denies_from.Given as goal

abbrev pub invariant-loop-i : goal.invariant-loop-i
invariant-loop-i l =
    denied_from (judge_of l.c) l.c.moment (literal_of l.l) l.passed (literals_in (drop l.i l.ls))
    ≡ denied_from (judge_of l.c) l.c.moment (literal_of l.l) l.others (literals_in l.ls)
