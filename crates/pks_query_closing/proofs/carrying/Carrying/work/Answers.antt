use Rattle.pks_terms.specs.Views.{signature_of}
use Rattle.pks_query_closing.proofs.ByValue.{goes_on, lists_goes}
use Rattle.pks_query_closing.proofs.carrying.Carrying.work.Goals as goal

pub loop-preserved : goal.loop-preserved
loop-preserved c =
    let s = signature_of c.args.s.now in
    goes_on s c.args.self.now c.loop.self c.put_group_in.new.self c.loop.invariant
    (goes_on s c.loop.self c.look_from.new.self c.put_group_in.new.self c.in_ok-look_from.ensures
    (goes_on s c.look_from.new.self c.next.new.self c.put_group_in.new.self (lists_goes s c.look_from.new.self c.next.new.self c.next.ensures) c.in_ok-put_group_in.ensures))

pub returns-in_default : goal.returns-in_default
returns-in_default c =
    let s = signature_of c.args.s.now in
    goes_on s c.args.self.now c.loop.self c.next.new.self c.loop.invariant
    (goes_on s c.loop.self c.look_from.new.self c.next.new.self c.in_ok-look_from.ensures (lists_goes s c.look_from.new.self c.next.new.self c.next.ensures))
