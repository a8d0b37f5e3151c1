use Rattle.pks_kf.specs.Known.{literals_of}
use Rattle.pks_terms.specs.Saturated.{Within}
use Rattle.pks_query_closing.proofs.carrying.Carrying.put_all_apart.Given as goal

abbrev pub invariant-loop-b : goal.invariant-loop-b
invariant-loop-b l = Within (literals_of l.fn.to.items) (literals_of l.self.five.kf) → Within (literals_of l.to.items) (literals_of l.self.five.kf)
