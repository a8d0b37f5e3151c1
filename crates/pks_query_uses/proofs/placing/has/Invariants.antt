use Rattle.std.proofs.Common.{◌≡◌, drop}
use Rattle.std.specs.List.{list_any}
use Rattle.pks_terms.specs.Orders.{literal_eq}
use Rattle.pks_terms.specs.Views.{literal_of, literals_in}
use Rattle.pks_query_uses.proofs.placing.has.Given as goal

abbrev pub invariant-loop-m : goal.invariant-loop-m
invariant-loop-m l = list_any (literal_eq (literal_of l.l)) (literals_in (drop l.m-index l.ls)) ≡ list_any (literal_eq (literal_of l.l)) (literals_in l.ls)
