use Rattle.std.proofs.Common.{◌≡◌, drop}
use Rattle.pks_terms.specs.Orders.{literal_cmp}
use Rattle.pks_terms.specs.Views.{literal_of, literals_in}
use Rattle.pks_terms.specs.Rewriting.{swaps_literal}
use Rattle.pks_proof_cited.specs.CitedViews.{judge_of}
use Rattle.pks_proof_cited.specs.Exchanges.{leaves}
use Rattle.pks_proof_cited.proofs.swapping.leaves.Given as goal

abbrev pub invariant-loop-i : goal.invariant-loop-i
invariant-loop-i l =
    leaves (λ x. swaps_literal (judge_of l.c) l.c.moment x (literal_of l.k)) literal_cmp (literals_in (drop l.i l.g)) (literals_in l.left)
    ≡ leaves (λ x. swaps_literal (judge_of l.c) l.c.moment x (literal_of l.k)) literal_cmp (literals_in l.g) (literals_in l.h)
