use Rattle.std.proofs.Common.{◌≡◌, ◌==◌, ◌∙◌, false, ap, sym, subst, map, length}
use Rattle.std.proofs.lemmas.Result.{IfOk-weaker}
use Rattle.pks_terms.specs.Views.{inner_of, signature_of, names_of}
use Rattle.pks_agent.specs.Leading.{moment, EndsIn, each_behind}
use Rattle.pks_agent.specs.Rooms.{argument_questions, texts_in, Opens}
use Rattle.pks_agent.proofs.Joining.{all_on, more_ends}
use Rattle.pks_agent.proofs.Told.{none_told, more_told}
use Rattle.pks_agent.proofs.Fronts.{head_and_rest, opens_first}
use Rattle.pks_agent.proofs.asking.+ask_each.Goals as goal

pub ask_argument-requires-clause-questions : goal.ask_argument-requires-clause-questions
ask_argument-requires-clause-questions g t c =
    let names = names_of c.args.p.now in
    let some : (length c.args.arguments.now == 0) ≡ false = sym c.is_empty.ensures ∙ c.if-is_empty.false in
    let all = ap (map inner_of) (head_and_rest c.args.arguments.now _ some) in
    opens_first names (texts_in c.args.questions.now) _ _ (subst (λ ts. Opens (texts_in c.args.questions.now) (argument_questions names ts)) all c.requires.questions)

pub returns-in-Ok-clause-leads : goal.returns-in-Ok-clause-leads
returns-in-Ok-clause-leads g t c =
    let m = moment g.P.Peer.answers g.P.Peer.said g.P.Peer.sends g.P.Peer.receipts g.P.Peer.kept g.P.Peer.sure c.args.peer.now in
    let m' = moment g.P.Peer.answers g.P.Peer.said g.P.Peer.sends g.P.Peer.receipts g.P.Peer.kept g.P.Peer.sure c.ask_argument.new.peer in
    let m'' = moment g.P.Peer.answers g.P.Peer.said g.P.Peer.sends g.P.Peer.receipts g.P.Peer.kept g.P.Peer.sure c.ask_each.new.peer in
    let s = signature_of c.args.p.now.signature in
    let names = names_of c.args.p.now in
    let some : (length c.args.arguments.now == 0) ≡ false = sym c.is_empty.ensures ∙ c.if-is_empty.false in
    let all = ap (map inner_of) (head_and_rest c.args.arguments.now _ some) in
    all_on s names (λ next. map inner_of c.ask_each.new.told.items) (map inner_of c.args.told.now.items) (map inner_of c.args.arguments.now) _ _ (map inner_of c.ask_argument.new.told.items) c.args.k c.in-Ok.next c.ask_each.result m m' m'' all c.in-Ok.ensures.next c.in-Ok.ensures.leads c.ask_each.ensures.leads

pub returns-in-Err-clause-leads : goal.returns-in-Err-clause-leads
returns-in-Err-clause-leads g t c =
    let m = moment g.P.Peer.answers g.P.Peer.said g.P.Peer.sends g.P.Peer.receipts g.P.Peer.kept g.P.Peer.sure c.args.peer.now in
    let m' = moment g.P.Peer.answers g.P.Peer.said g.P.Peer.sends g.P.Peer.receipts g.P.Peer.kept g.P.Peer.sure c.ask_argument.new.peer in
    let s = signature_of c.args.p.now.signature in
    let names = names_of c.args.p.now in
    let some : (length c.args.arguments.now == 0) ≡ false = sym c.is_empty.ensures ∙ c.if-is_empty.false in
    let all = ap (map inner_of) (head_and_rest c.args.arguments.now _ some) in
    subst (λ ts. EndsIn (each_behind s names (map inner_of c.args.told.now.items) ts) c.args.k c.in-Err.stop m m') (sym all)
    (more_ends s names (map inner_of c.args.told.now.items) _ _ c.args.k c.in-Err.stop m m' c.in-Err.ensures.leads)

pub returns-then-is_empty-clause-told : goal.returns-then-is_empty-clause-told
returns-then-is_empty-clause-told g t c = none_told c.args.arguments.now c.args.k c.args.told.now (sym c.is_empty.ensures ∙ c.if-is_empty.true) c.requires.spoken

pub returns-in-Ok-clause-told : goal.returns-in-Ok-clause-told
returns-in-Ok-clause-told g t c =
    let some : (length c.args.arguments.now == 0) ≡ false = sym c.is_empty.ensures ∙ c.if-is_empty.false in
    IfOk-weaker c.ask_each.result _ _
    (λ m rest. more_told _ _ c.args.arguments.now c.args.k c.in-Ok.next m c.args.told.now c.ask_argument.new.told c.ask_each.new.told (head_and_rest c.args.arguments.now _ some) c.in-Ok.ensures.next c.in-Ok.ensures.few
    c.in-Ok.ensures.count c.in-Ok.ensures.room rest)
    c.ask_each.ensures.told
