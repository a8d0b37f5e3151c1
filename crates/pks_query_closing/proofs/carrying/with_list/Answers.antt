use Rattle.std.proofs.Common.{subst}
use Rattle.pks_kf.specs.Known.{literals_of}
use Rattle.pks_query_closing.specs.Carrying.{Lists}
use Rattle.pks_query_closing.proofs.ByValue.{starts}
use Rattle.pks_query_closing.proofs.carrying.with_list.Goals as goal

pub returns : goal.returns
returns c =
    let kf = c.in_ok-kf.ensures in
    starts c.args.five c.in_ok-carrying.carrying c.list_all.new.to c.find.new.self c.list_all-2.new.to c.in_ok-carrying.ensures
    (subst (λ ls. Lists (literals_of ls) c.in_ok-carrying.carrying c.list_all.new.to) kf c.in_ok-list_all.ensures)
    c.in_ok-find.ensures
    (subst (λ ls. Lists (literals_of ls) c.find.new.self c.list_all-2.new.to) kf c.in_ok-list_all-2.ensures)
