use Rattle.std.proofs.Common.{◌≡◌, drop}
use Rattle.std.specs.List.{list_any}
use Rattle.pks_terms.specs.Orders.{literal_eq}
use Rattle.pks_terms.specs.Views.{literal_of, literals_in}
use Rattle.pks_proof_cited.proofs.cited.is_one_of.Given as goal

abbrev pub invariant-loop-k : goal.invariant-loop-k
invariant-loop-k l =
    list_any (literal_eq (literal_of l.l)) (literals_in (drop l.k-index l.ls))
    ≡ list_any (literal_eq (literal_of l.l)) (literals_in l.ls)
