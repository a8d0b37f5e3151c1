use Rattle.std.proofs.Common.{◌≡◌, ◌≤◌, ◌+◌, ◌∙◌, ap, sym, subst, length, Some, None, option_map}
use Rattle.pks_terms.specs.Signatures.{range_of}
use Rattle.pks_terms.specs.Talk.{object_named, asking}
use Rattle.pks_terms.specs.Views.{object_of, signature_of, names_of, term_of}
use Rattle.pks_agent.specs.Answers.{answer_text}
use Rattle.pks_agent.specs.Leading.{moment, Leads}
use Rattle.pks_agent.proofs.Joining.{so_of_error, asked_on, asked_unfit, asked_ends}
use Rattle.pks_agent.proofs.asking.ask_value.Goals as goal

pub returns-in-Some : goal.returns-in-Some
returns-in-Some g c =
    let m = moment g.P.Peer.answers g.P.Peer.said g.P.Peer.sends g.P.Peer.receipts g.P.Peer.kept g.P.Peer.sure c.args.peer.now in
    let m' = moment g.P.Peer.answers g.P.Peer.said g.P.Peer.sends g.P.Peer.receipts g.P.Peer.kept g.P.Peer.sure c.ask.new.peer in
    let reads = object_named (names_of c.args.p.now) (range_of (signature_of c.args.p.now.signature) (term_of c.args.t.now)) in
    let short : length (answer_text c.ask.new.into) ≤ 64 = subst (λ text. length text ≤ 64) c.text.ensures.text c.text.ensures.short in
    let fit : reads (answer_text c.ask.new.into) ≡ Some c.in-Some.object.0 = ap reads (sym c.text.ensures.text) ∙ sym c.value.ensures ∙ ap (option_map object_of) c.in-Some.is in
    asked_on reads c.args.question.now c.args.k m m' (answer_text c.ask.new.into) c.in_ok-ask.field-0 c.in-Some.object.0 c.in_ok-ask.ensures short fit

pub returns-in-None : goal.returns-in-None
returns-in-None g c =
    let m = moment g.P.Peer.answers g.P.Peer.said g.P.Peer.sends g.P.Peer.receipts g.P.Peer.kept g.P.Peer.sure c.args.peer.now in
    let m' = moment g.P.Peer.answers g.P.Peer.said g.P.Peer.sends g.P.Peer.receipts g.P.Peer.kept g.P.Peer.sure c.ask.new.peer in
    let reads = object_named (names_of c.args.p.now) (range_of (signature_of c.args.p.now.signature) (term_of c.args.t.now)) in
    let short : length (answer_text c.ask.new.into) ≤ 64 = subst (λ text. length text ≤ 64) c.text.ensures.text c.text.ensures.short in
    let none : reads (answer_text c.ask.new.into) ≡ None = ap reads (sym c.text.ensures.text) ∙ sym c.value.ensures ∙ ap (option_map object_of) c.in-None.is in
    asked_unfit reads c.args.question.now c.args.k m m' (answer_text c.ask.new.into) c.in_ok-ask.field-0 c.in_ok-ask.ensures short none

pub returns-in_err-ask : goal.returns-in_err-ask
returns-in_err-ask g c =
    let m = moment g.P.Peer.answers g.P.Peer.said g.P.Peer.sends g.P.Peer.receipts g.P.Peer.kept g.P.Peer.sure c.args.peer.now in
    let m' = moment g.P.Peer.answers g.P.Peer.said g.P.Peer.sends g.P.Peer.receipts g.P.Peer.kept g.P.Peer.sure c.ask.new.peer in
    let reads = object_named (names_of c.args.p.now) (range_of (signature_of c.args.p.now.signature) (term_of c.args.t.now)) in
    so_of_error (λ r. Leads object_of (asking reads c.args.question.now) c.args.k (c.args.k + 1) r m m') c.from_residual.result c.in_err-ask.field-0.0 c.from_residual.ensures.1
    (asked_ends reads c.args.question.now c.args.k m m' (answer_text c.ask.new.into) c.in_err-ask.field-0.0 c.in_err-ask.ensures)
