use Rattle.pks_query_closing.proofs.ByValue.{puts_one}
use Rattle.pks_query_closing.proofs.carrying.Carrying.put_in.Goals as goal

pub returns : goal.returns
returns c = puts_one c.args.l.now c.args.self.now c.list.new.self c.in_ok-self.field-0 c.in_ok-list.ensures.known c.in_ok-list.ensures.groups c.in_ok-self.ensures c.in_ok-list.ensures.listed
