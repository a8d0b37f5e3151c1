use Rattle.pks_terms.specs.Saturated.{Within}
use Rattle.pks_kf.specs.Known.{literals_of}
use Rattle.pks_query_closing.proofs.carrying.Carrying.literals.Given as goal

abbrev pub invariant-loop-k : goal.invariant-loop-k
invariant-loop-k l = Within (literals_of l.found.items) (literals_of l.self.listed.items)
