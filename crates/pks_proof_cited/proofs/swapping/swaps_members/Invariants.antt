use Rattle.std.proofs.Common.{◌≡◌, drop}
use Rattle.pks_terms.specs.Orders.{literal_cmp}
use Rattle.pks_terms.specs.Views.{literals_in}
use Rattle.pks_terms.specs.Rewriting.{swaps_literal}
use Rattle.pks_proof_cited.specs.CitedViews.{judge_of}
use Rattle.pks_proof_cited.specs.Exchanges.{exchanges}
use Rattle.pks_proof_cited.proofs.swapping.swaps_members.Given as goal

abbrev pub invariant-loop-i : goal.invariant-loop-i
invariant-loop-i l =
    exchanges (swaps_literal (judge_of l.c) l.c.moment) literal_cmp (literals_in (drop l.i l.g)) (literals_in l.left)
    ≡ exchanges (swaps_literal (judge_of l.c) l.c.moment) literal_cmp (literals_in l.g) (literals_in l.h)
