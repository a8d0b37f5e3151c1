use Rattle.pks_terms.specs.Saturated.{Within}
use Rattle.pks_kf.specs.Known.{literals_of}
use Rattle.pks_query_closing.specs.Carrying.{Lists}
use Rattle.pks_query_closing.proofs.carrying.list_all.Given as goal

abbrev pub invariant-loop-l : goal.invariant-loop-l
invariant-loop-l l = Within (literals_of l.l-iterator) (literals_of l.kf) × Lists (literals_of l.kf) l.fn.to l.to
