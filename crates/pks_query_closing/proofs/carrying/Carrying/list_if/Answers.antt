use Rattle.pks_query_closing.proofs.ByValue.{lists_one}
use Rattle.pks_query_closing.proofs.carrying.Carrying.list_if.Goals as goal

pub returns : goal.returns
returns c = lists_one c.args.l.now c.args.self.now c.list.new.self c.in_ok-list.ensures.known c.in_ok-list.ensures.groups c.in_ok-list.ensures.listed
