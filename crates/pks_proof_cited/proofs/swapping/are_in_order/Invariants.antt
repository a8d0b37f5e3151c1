use Rattle.std.proofs.Common.{◌≡◌, drop}
use Rattle.pks_terms.specs.Views.{literals_in}
use Rattle.pks_terms.specs.Rewriting.{are_in_order}
use Rattle.pks_proof_cited.proofs.swapping.are_in_order.Given as goal

abbrev pub invariant-loop-i : goal.invariant-loop-i
invariant-loop-i l =
    are_in_order (literals_in (drop l.i l.ls))
    ≡ are_in_order (literals_in l.ls)
