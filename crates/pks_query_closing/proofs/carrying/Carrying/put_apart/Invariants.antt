use Rattle.pks_kf.specs.Known.{literals_of}
use Rattle.pks_terms.specs.Saturated.{Within}
use Rattle.pks_query_closing.proofs.carrying.Carrying.put_apart.Given as goal

abbrev pub invariant-loop-i : goal.invariant-loop-i
invariant-loop-i l = Within (literals_of l.fn.to.items) (literals_of l.self.five.kf) → Within (literals_of l.to.items) (literals_of l.self.five.kf)
