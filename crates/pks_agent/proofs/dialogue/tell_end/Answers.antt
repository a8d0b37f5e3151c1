use Rattle.std.proofs.Common.{◌≡◌, ◌∙◌, subst}
use Rattle.pks_terms.specs.Printed.{end_text}
use Rattle.pks_exec.specs.Runs.{ending_of}
use Rattle.pks_agent.specs.Leading.{moment, LeadsOn, EndsIn, stating}
use Rattle.pks_agent.proofs.Joining.{ended_on, ended_untold}
use Rattle.pks_agent.proofs.dialogue.tell_end.Goals as goal

pub returns-in-Err : goal.returns-in-Err
returns-in-Err g c =
    let m = moment g.P.Peer.answers g.P.Peer.said g.P.Peer.sends g.P.Peer.receipts g.P.Peer.kept g.P.Peer.sure c.args.peer.now in
    let m' = moment g.P.Peer.answers g.P.Peer.said g.P.Peer.sends g.P.Peer.receipts g.P.Peer.kept g.P.Peer.sure c.tell.new.peer in
    let text_is : c.as_bytes.result.now ≡ end_text (ending_of c.args.end) = c.as_bytes.ensures.value ∙ c.end_words.ensures in
    ended_untold c.args.end 0 m m' c.in-Err.stop (subst (λ text. EndsIn {Y = Unit {0}} (λ go. stating text (go tt)) 0 c.in-Err.stop m m') text_is (c.in-Err.ensures 0))

pub returns-in-Ok : goal.returns-in-Ok
returns-in-Ok g c =
    let m = moment g.P.Peer.answers g.P.Peer.said g.P.Peer.sends g.P.Peer.receipts g.P.Peer.kept g.P.Peer.sure c.args.peer.now in
    let m' = moment g.P.Peer.answers g.P.Peer.said g.P.Peer.sends g.P.Peer.receipts g.P.Peer.kept g.P.Peer.sure c.tell.new.peer in
    let text_is : c.as_bytes.result.now ≡ end_text (ending_of c.args.end) = c.as_bytes.ensures.value ∙ c.end_words.ensures in
    ended_on c.args.end 0 m m' (subst (λ text. LeadsOn {Y = Unit {0}} (λ go. stating text (go tt)) 0 0 tt m m') text_is (c.in-Ok.ensures 0))
