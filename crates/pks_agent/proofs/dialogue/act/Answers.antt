use Rattle.std.proofs.Common.{◌≡◌, ◌+◌, ◌∙◌, ap, subst, [], map}
use Rattle.pks_terms.specs.Talk.{do_text}
use Rattle.pks_terms.specs.Views.{inner_of, instance_of, signature_of, names_of}
use Rattle.pks_agent.specs.Leading.{moment, LeadsOn, EndsIn, each_behind, stating}
use Rattle.pks_agent.specs.Rooms.{argument_count}
use Rattle.pks_agent.proofs.Joining.{done_on, done_untold, done_unasked}
use Rattle.pks_agent.proofs.dialogue.act.Goals as goal

pub returns-in-Ok-tell-clause-leads : goal.returns-in-Ok-tell-clause-leads
returns-in-Ok-tell-clause-leads g c =
    let m = moment g.P.Peer.answers g.P.Peer.said g.P.Peer.sends g.P.Peer.receipts g.P.Peer.kept g.P.Peer.sure c.args.peer.now in
    let m' = moment g.P.Peer.answers g.P.Peer.said g.P.Peer.sends g.P.Peer.receipts g.P.Peer.kept g.P.Peer.sure c.ask_each.new.peer in
    let s = signature_of c.args.p.now.signature in
    let names = names_of c.args.p.now in
    let i = instance_of c.args.step.now in
    let k = c.args.k in
    let none = ap (map inner_of) c.clear.ensures.items in
    let all = ap (map inner_of) c.front.ensures in
    let m'' = moment g.P.Peer.answers g.P.Peer.said g.P.Peer.sends g.P.Peer.receipts g.P.Peer.kept g.P.Peer.sure c.tell.new.peer in
    let us = map inner_of c.ask_each.new.told.items in
    let each : LeadsOn (each_behind s names [] i.arguments) k (k + argument_count i.arguments) us m m' =
    subst (λ ts. LeadsOn (each_behind s names [] ts) k (k + argument_count ts) us m m') all (subst (λ before. LeadsOn (each_behind s names before (map inner_of c.front.result.now)) k (k + argument_count (map inner_of c.front.result.now)) us m m') none c.in-Ok.ensures.leads) in
    let line_is : c.as_slice-in-Ok.result.now ≡ do_text names i.action us = c.as_slice-in-Ok.ensures.value ∙ c.action_line.ensures.text ∙ ap (λ ts. do_text names i.action (map inner_of ts)) c.as_slice.ensures.value in
    let next = k + argument_count i.arguments in
    done_on s names i us k next m m' m'' each (subst (λ text. LeadsOn {Y = Unit {0}} (λ go. stating text (go tt)) next next tt m' m'') line_is (c.in-Ok-tell.ensures next))

pub returns-in-Err-tell-clause-leads : goal.returns-in-Err-tell-clause-leads
returns-in-Err-tell-clause-leads g c =
    let m = moment g.P.Peer.answers g.P.Peer.said g.P.Peer.sends g.P.Peer.receipts g.P.Peer.kept g.P.Peer.sure c.args.peer.now in
    let m' = moment g.P.Peer.answers g.P.Peer.said g.P.Peer.sends g.P.Peer.receipts g.P.Peer.kept g.P.Peer.sure c.ask_each.new.peer in
    let s = signature_of c.args.p.now.signature in
    let names = names_of c.args.p.now in
    let i = instance_of c.args.step.now in
    let k = c.args.k in
    let none = ap (map inner_of) c.clear.ensures.items in
    let all = ap (map inner_of) c.front.ensures in
    let m'' = moment g.P.Peer.answers g.P.Peer.said g.P.Peer.sends g.P.Peer.receipts g.P.Peer.kept g.P.Peer.sure c.tell.new.peer in
    let us = map inner_of c.ask_each.new.told.items in
    let each : LeadsOn (each_behind s names [] i.arguments) k (k + argument_count i.arguments) us m m' =
    subst (λ ts. LeadsOn (each_behind s names [] ts) k (k + argument_count ts) us m m') all (subst (λ before. LeadsOn (each_behind s names before (map inner_of c.front.result.now)) k (k + argument_count (map inner_of c.front.result.now)) us m m') none c.in-Ok.ensures.leads) in
    let line_is : c.as_slice-in-Ok.result.now ≡ do_text names i.action us = c.as_slice-in-Ok.ensures.value ∙ c.action_line.ensures.text ∙ ap (λ ts. do_text names i.action (map inner_of ts)) c.as_slice.ensures.value in
    let next = k + argument_count i.arguments in
    done_untold s names i us k next c.in-Err-tell.stop m m' m'' each (subst (λ text. EndsIn {Y = Unit {0}} (λ go. stating text (go tt)) next c.in-Err-tell.stop m' m'') line_is (c.in-Err-tell.ensures next))

pub returns-in-Err-clause-leads : goal.returns-in-Err-clause-leads
returns-in-Err-clause-leads g c =
    let m = moment g.P.Peer.answers g.P.Peer.said g.P.Peer.sends g.P.Peer.receipts g.P.Peer.kept g.P.Peer.sure c.args.peer.now in
    let m' = moment g.P.Peer.answers g.P.Peer.said g.P.Peer.sends g.P.Peer.receipts g.P.Peer.kept g.P.Peer.sure c.ask_each.new.peer in
    let s = signature_of c.args.p.now.signature in
    let names = names_of c.args.p.now in
    let i = instance_of c.args.step.now in
    let k = c.args.k in
    let none = ap (map inner_of) c.clear.ensures.items in
    let all = ap (map inner_of) c.front.ensures in
    done_unasked s names i k c.in-Err.stop m m'
    (subst (λ ts. EndsIn (each_behind s names [] ts) k c.in-Err.stop m m') all (subst (λ before. EndsIn (each_behind s names before (map inner_of c.front.result.now)) k c.in-Err.stop m m') none c.in-Err.ensures.leads))
