use Rattle.pks_kf.specs.Known.{literals_of}
use Rattle.pks_query_closing.proofs.ByValue.{within_push}
use Rattle.pks_query_closing.proofs.carrying.Carrying.put_literal.Goals as goal

pub returns : goal.returns
returns c = λ within. within_push (literals_of c.args.self.now.listed.items) c.in-Some.l c.args.to.now.items c.push.new.self.items c.in_ok-push.ensures.items c.in-Some.ensures within
