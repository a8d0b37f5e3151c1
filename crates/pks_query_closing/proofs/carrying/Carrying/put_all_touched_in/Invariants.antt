use Rattle.pks_kf.specs.Known.{literals_of}
use Rattle.pks_query_closing.specs.Carrying.{Carries}
use Rattle.pks_query_closing.proofs.carrying.Carrying.put_all_touched_in.Given as goal

abbrev pub invariant-loop-k : goal.invariant-loop-k
invariant-loop-k l = Carries (literals_of l.by.kf) l.fn.self l.self
