use Rattle.pks_history.proofs.Alike.{same_arguments}
use Rattle.pks_history.proofs.same.same_instance.Goals as goal

pub returns-then-i-j : goal.returns-then-i-j
returns-then-i-j c = same_arguments c.args.i.now c.args.j.now c.front.result.now c.front-then-i-j.result.now c.eq.result c.if-i-j.true c.front.ensures c.front-then-i-j.ensures c.eq.ensures
