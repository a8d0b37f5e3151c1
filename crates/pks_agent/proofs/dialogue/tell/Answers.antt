use Rattle.pks_agent.specs.Leading.{moment}
use Rattle.pks_agent.proofs.Joining.{told_on, told_ends}
use Rattle.pks_agent.proofs.dialogue.tell.Goals as goal

pub returns-in-Ok : goal.returns-in-Ok
returns-in-Ok g c =
    let m = moment g.P.Peer.answers g.P.Peer.said g.P.Peer.sends g.P.Peer.receipts g.P.Peer.kept g.P.Peer.sure c.args.peer.now in
    let m' = moment g.P.Peer.answers g.P.Peer.said g.P.Peer.sends g.P.Peer.receipts g.P.Peer.kept g.P.Peer.sure c.tell.new.self in
    λ k. told_on m m' c.args.text.now k c.in-Ok.field-0 c.in-Ok.ensures.cause c.in-Ok.ensures.ok c.in-Ok.ensures.answers c.in-Ok.ensures.served c.in-Ok.ensures.kept

pub returns-in-Err : goal.returns-in-Err
returns-in-Err g c =
    let m = moment g.P.Peer.answers g.P.Peer.said g.P.Peer.sends g.P.Peer.receipts g.P.Peer.kept g.P.Peer.sure c.args.peer.now in
    let m' = moment g.P.Peer.answers g.P.Peer.said g.P.Peer.sends g.P.Peer.receipts g.P.Peer.kept g.P.Peer.sure c.tell.new.self in
    λ k. told_ends m m' c.args.text.now k c.in-Err.fault c.in-Err.ensures.cause c.in-Err.ensures.err c.in-Err.ensures.answers c.in-Err.ensures.served c.in-Err.ensures.kept
