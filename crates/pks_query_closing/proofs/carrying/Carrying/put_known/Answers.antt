use Rattle.pks_kf.specs.Known.{literals_of}
use Rattle.std.proofs.Common.{sym, ◌∙◌}
use Rattle.pks_query_closing.proofs.ByValue.{within_push, member_in}
use Rattle.pks_query_closing.proofs.carrying.Carrying.put_known.Goals as goal

pub returns : goal.returns
returns c = λ within. within_push (literals_of c.args.self.now.five.kf) c.args.l.now c.args.to.now.items c.push.new.self.items c.in_ok-push.ensures.items (member_in c.args.l.now c.args.self.now.five.kf (sym c.has.ensures ∙ c.if-not-has.false)) within
