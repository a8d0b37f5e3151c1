use Rattle.std.proofs.Common.{◌≡◌, ◌≤◌, ◌+◌, ◌∙◌, ap, sym, subst, length, Some, None}
use Rattle.pks_terms.specs.Talk.{truth_told, asking}
use Rattle.pks_agent.specs.Answers.{answer_text}
use Rattle.pks_agent.specs.Leading.{moment, Leads}
use Rattle.pks_agent.proofs.Joining.{so_of_error, asked_on, asked_unfit, asked_ends}
use Rattle.pks_agent.proofs.asking.ask_truth.Goals as goal

pub returns-in-Some : goal.returns-in-Some
returns-in-Some g c =
    let m = moment g.P.Peer.answers g.P.Peer.said g.P.Peer.sends g.P.Peer.receipts g.P.Peer.kept g.P.Peer.sure c.args.peer.now in
    let m' = moment g.P.Peer.answers g.P.Peer.said g.P.Peer.sends g.P.Peer.receipts g.P.Peer.kept g.P.Peer.sure c.ask.new.peer in
    let short : length (answer_text c.ask.new.into) ≤ 64 = subst (λ text. length text ≤ 64) c.text.ensures.text c.text.ensures.short in
    let fit : truth_told (answer_text c.ask.new.into) ≡ Some c.in-Some.truth = ap truth_told (sym c.text.ensures.text) ∙ sym c.truth.ensures ∙ c.in-Some.is in
    asked_on truth_told c.args.question.now c.args.k m m' (answer_text c.ask.new.into) c.in_ok-ask.field-0 c.in-Some.truth c.in_ok-ask.ensures short fit

pub returns-in-None : goal.returns-in-None
returns-in-None g c =
    let m = moment g.P.Peer.answers g.P.Peer.said g.P.Peer.sends g.P.Peer.receipts g.P.Peer.kept g.P.Peer.sure c.args.peer.now in
    let m' = moment g.P.Peer.answers g.P.Peer.said g.P.Peer.sends g.P.Peer.receipts g.P.Peer.kept g.P.Peer.sure c.ask.new.peer in
    let short : length (answer_text c.ask.new.into) ≤ 64 = subst (λ text. length text ≤ 64) c.text.ensures.text c.text.ensures.short in
    let none : truth_told (answer_text c.ask.new.into) ≡ None = ap truth_told (sym c.text.ensures.text) ∙ sym c.truth.ensures ∙ c.in-None.is in
    asked_unfit truth_told c.args.question.now c.args.k m m' (answer_text c.ask.new.into) c.in_ok-ask.field-0 c.in_ok-ask.ensures short none

pub returns-in_err-ask : goal.returns-in_err-ask
returns-in_err-ask g c =
    let m = moment g.P.Peer.answers g.P.Peer.said g.P.Peer.sends g.P.Peer.receipts g.P.Peer.kept g.P.Peer.sure c.args.peer.now in
    let m' = moment g.P.Peer.answers g.P.Peer.said g.P.Peer.sends g.P.Peer.receipts g.P.Peer.kept g.P.Peer.sure c.ask.new.peer in
    so_of_error (λ r. Leads (λ b. b) (asking truth_told c.args.question.now) c.args.k (c.args.k + 1) r m m') c.from_residual.result c.in_err-ask.field-0.0 c.from_residual.ensures.1
    (asked_ends truth_told c.args.question.now c.args.k m m' (answer_text c.ask.new.into) c.in_err-ask.field-0.0 c.in_err-ask.ensures)
