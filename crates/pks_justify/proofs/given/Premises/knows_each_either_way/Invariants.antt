use Rattle.std.proofs.Common.{◌≡◌, drop}
use Rattle.std.specs.List.{list_all}
use Rattle.pks_terms.specs.Justified.{is_given_either_way}
use Rattle.pks_terms.specs.Views.{literals_in}
use Rattle.pks_justify.specs.Asked.{given_view}
use Rattle.pks_justify.proofs.given.Premises.knows_each_either_way.Given as goal

abbrev pub invariant-loop-l : goal.invariant-loop-l
invariant-loop-l l = list_all (is_given_either_way (given_view l.self)) (literals_in (drop l.l-index l.literals)) ≡ list_all (is_given_either_way (given_view l.self)) (literals_in l.literals)
