use Rattle.std.proofs.Common.{◌≡◌, drop, not}
use Rattle.std.specs.List.{list_all}
use Rattle.std.specs.Ordering.{is_gt}
use Rattle.pks_terms.specs.Orders.{literal_cmp}
use Rattle.pks_terms.specs.Views.{literal_of, literals_in}
use Rattle.pks_proof_cited.proofs.swapping.is_above_none.Given as goal

abbrev pub invariant-loop-k : goal.invariant-loop-k
invariant-loop-k l =
    list_all (λ k. not (is_gt (literal_cmp (literal_of l.l) k))) (literals_in (drop l.k-index l.ls))
    ≡ list_all (λ k. not (is_gt (literal_cmp (literal_of l.l) k))) (literals_in l.ls)
