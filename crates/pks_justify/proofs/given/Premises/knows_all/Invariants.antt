use Rattle.std.proofs.Common.{◌≡◌, drop}
use Rattle.pks_terms.specs.Justified.{are_given}
use Rattle.pks_terms.specs.Views.{literals_in}
use Rattle.pks_justify.specs.Asked.{given_view}
use Rattle.pks_justify.proofs.given.Premises.knows_all.Given as goal

abbrev pub invariant-loop-l : goal.invariant-loop-l
invariant-loop-l l = are_given (given_view l.self) (literals_in (drop l.l-index l.literals)) ≡ are_given (given_view l.self) (literals_in l.literals)
