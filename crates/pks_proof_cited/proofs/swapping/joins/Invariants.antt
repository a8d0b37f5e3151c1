use Rattle.std.proofs.Common.{◌≡◌, drop}
use Rattle.pks_terms.specs.Orders.{literal_cmp}
use Rattle.pks_terms.specs.Views.{literal_of, literals_in}
use Rattle.pks_terms.specs.Rewriting.{swaps_literal}
use Rattle.pks_proof_cited.specs.CitedViews.{judge_of}
use Rattle.pks_proof_cited.specs.Exchanges.{joins}
use Rattle.pks_proof_cited.proofs.swapping.joins.Given as goal

abbrev pub invariant-loop-i : goal.invariant-loop-i
invariant-loop-i l =
    joins (swaps_literal (judge_of l.c) l.c.moment (literal_of l.l)) literal_cmp (literals_in l.left) (literals_in (drop l.i l.h))
    ≡ joins (swaps_literal (judge_of l.c) l.c.moment (literal_of l.l)) literal_cmp (literals_in l.g) (literals_in l.h)
