use Rattle.pks_terms.specs.Views.{signature_of}
use Rattle.pks_query_closing.proofs.ByValue.{goes_on}
use Rattle.pks_query_closing.proofs.carrying.Carrying.look_from.Goals as goal

pub loop-k-preserved : goal.loop-k-preserved
loop-k-preserved c = goes_on (signature_of c.args.s.now) c.args.self.now c.loop-k.self c.look_at.new.self c.loop-k.invariant c.in_ok-look_at.ensures
