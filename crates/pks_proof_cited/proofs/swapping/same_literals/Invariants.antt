use Rattle.std.proofs.Common.{◌≡◌, drop}
use Rattle.std.specs.Ordering.{is_eq}
use Rattle.pks_terms.specs.Orders.{conj_cmp}
use Rattle.pks_terms.specs.Views.{literals_in}
use Rattle.pks_proof_cited.proofs.swapping.same_literals.Given as goal

abbrev pub invariant-loop-x : goal.invariant-loop-x
invariant-loop-x l =
    is_eq (conj_cmp (literals_in (drop l.x-index l.g)) (literals_in l.left))
    ≡ is_eq (conj_cmp (literals_in l.g) (literals_in l.h))
