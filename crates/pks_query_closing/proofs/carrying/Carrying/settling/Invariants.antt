use Rattle.pks_kf.specs.Known.{literals_of}
use Rattle.pks_terms.specs.Saturated.{Within}
use Rattle.pks_query_closing.proofs.carrying.Carrying.settling.Given as goal

abbrev pub invariant-loop-l : goal.invariant-loop-l
invariant-loop-l l = Within (literals_of l.forms.items) (literals_of l.self.five.kf)
