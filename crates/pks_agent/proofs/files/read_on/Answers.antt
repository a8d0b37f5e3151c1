use Rattle.std.proofs.Common.{Ok, refl, sym, subst, arith, true}
use Rattle.pks_agent.specs.Streams.{coming, Appended, HasRead}
use Rattle.pks_agent.proofs.Streams.{read_first, read_whole, read_stopped}
use Rattle.pks_agent.proofs.files.read_on.Goals as goal

pub loop-init : goal.loop-init
loop-init g c =
    let all = coming c.args.ahead.now (g.S.Source.left c.args.source.now) in
    record {
      read = subst (λ t. HasRead all all t true) (sym c.new-text.ensures.items) (read_first all);
      turns = omega arith;
      bound = omega (arith, c.new-text.ensures.len);
      still = refl;
    }

pub returns-in-Ok-None-clause-told : goal.returns-in-Ok-None-clause-told
returns-in-Ok-None-clause-told g c =
    read_whole (coming c.args.ahead.now (g.S.Source.left c.args.source.now)) (coming c.loop.ahead (g.S.Source.left c.loop.source)) (coming c.find.new.ahead (g.S.Source.left c.find.new.source))
    c.loop.text.items c.append.new.text.items c.loop.begins c.in-Ok.found c.loop.invariant.read c.in-Ok.ensures.finds
    (subst (λ o. Appended c.loop.text.items c.append.new.text.items c.in-Ok.found (Ok o)) c.in-Ok-None.field-0-is c.in-Ok-None.ensures.appended)

pub returns-in-Err-clause-told : goal.returns-in-Err-clause-told
returns-in-Err-clause-told g c =
    read_stopped (coming c.args.ahead.now (g.S.Source.left c.args.source.now)) (coming c.loop.ahead (g.S.Source.left c.loop.source)) (coming c.find.new.ahead (g.S.Source.left c.find.new.source)) (coming c.find.new.ahead (g.S.Source.left c.find.new.source))
    c.loop.text.items c.append.new.text.items c.loop.begins c.in-Ok.found c.in-Err.end c.loop.invariant.read c.in-Ok.ensures.finds c.in-Err.ensures.appended
