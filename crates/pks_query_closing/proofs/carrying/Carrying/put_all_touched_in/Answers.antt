use Rattle.pks_kf.specs.Known.{literals_of}
use Rattle.pks_query_closing.proofs.ByValue.{carries_on}
use Rattle.pks_query_closing.proofs.carrying.Carrying.put_all_touched_in.Goals as goal

pub loop-k-preserved : goal.loop-k-preserved
loop-k-preserved c = carries_on (literals_of c.args.by.now.kf) c.args.self.now c.loop-k.self c.put_touched_in.new.self c.loop-k.invariant c.in_ok-put_touched_in.ensures
