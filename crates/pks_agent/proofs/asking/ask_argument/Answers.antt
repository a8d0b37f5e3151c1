use Rattle.std.proofs.Common.{◌≡◌, ◌+◌, ◌∙◌, ap, sym, subst, [], ◌∷◌, ◌++◌, map, take}
use Rattle.std.proofs.lemmas.List.{map-append}
use Rattle.pks_terms.specs.Syntax.{Object, Apply, term_of as lifted}
use Rattle.pks_terms.specs.Signatures.{range_of}
use Rattle.pks_terms.specs.Talk.{object_named, asking}
use Rattle.pks_terms.specs.Views.{object_of, inner_of, term_of, signature_of, names_of}
use Rattle.pks_agent.specs.Leading.{moment, LeadsOn, EndsIn, each_behind}
use Rattle.pks_agent.specs.Rooms.{argument_count, argument_questions, value_question, texts_in, Opens}
use Rattle.pks_agent.proofs.Joining.{value_on, value_ends}
use Rattle.pks_agent.proofs.Fronts.{first_question}
use Rattle.pks_agent.proofs.asking.ask_argument.Goals as goal

pub returns-in-Ok-clause-leads : goal.returns-in-Ok-clause-leads
returns-in-Ok-clause-leads g c =
    let m = moment g.P.Peer.answers g.P.Peer.said g.P.Peer.sends g.P.Peer.receipts g.P.Peer.kept g.P.Peer.sure c.args.peer.now in
    let m' = moment g.P.Peer.answers g.P.Peer.said g.P.Peer.sends g.P.Peer.receipts g.P.Peer.kept g.P.Peer.sure c.ask_value.new.peer in
    let s = signature_of c.args.p.now.signature in
    let names = names_of c.args.p.now in
    let ds = map object_of (take c.in-App.n c.in-App.args) in
    let f = c.in-App.fun.0 in
    let before = map inner_of c.args.told.now.items in
    let d = c.in-Ok.object.0 in
    let t_is : inner_of c.args.t.now ≡ Apply f ds = ap inner_of c.in-App.is in
    let opens : Opens (texts_in c.args.questions.now) (value_question names (lifted (Apply f ds)) ∷ []) = subst (λ t. Opens (texts_in c.args.questions.now) (argument_questions names (t ∷ []))) t_is c.requires.questions in
    let question_is : c.as_slice.result.now ≡ value_question names (lifted (Apply f ds)) = c.as_slice.ensures.value ∙ ap (λ v. v.items) c.index-questions-0.is ∙ first_question c.args.questions.now _ _ opens.0 opens.1 in
    let term_is : term_of c.as_term.result ≡ lifted (Apply f ds) = c.as_term.ensures.says ∙ ap lifted t_is in
    let first = subst (λ question. LeadsOn (asking (object_named names (range_of s (lifted (Apply f ds)))) question) c.args.k (c.args.k + 1) d m m') question_is
    (subst (λ t. LeadsOn (asking (object_named names (range_of s t)) c.as_slice.result.now) c.args.k (c.args.k + 1) d m m') term_is c.in-Ok.ensures) in
    let told_is : map inner_of c.push_reserved.new.self.items ≡ before ++ Object d ∷ [] = ap (map inner_of) c.push_reserved.ensures.items ∙ map-append inner_of c.args.told.now.items _ in
    subst (λ us. LeadsOn (each_behind s names before (inner_of c.args.t.now ∷ [])) c.args.k (c.args.k + argument_count (inner_of c.args.t.now ∷ [])) us m m') (sym told_is)
    (subst (λ t. LeadsOn (each_behind s names before (t ∷ [])) c.args.k (c.args.k + argument_count (t ∷ [])) (before ++ Object d ∷ []) m m') (sym t_is) (value_on s names before f ds d c.args.k m m' first))

pub returns-in-Err-clause-leads : goal.returns-in-Err-clause-leads
returns-in-Err-clause-leads g c =
    let m = moment g.P.Peer.answers g.P.Peer.said g.P.Peer.sends g.P.Peer.receipts g.P.Peer.kept g.P.Peer.sure c.args.peer.now in
    let m' = moment g.P.Peer.answers g.P.Peer.said g.P.Peer.sends g.P.Peer.receipts g.P.Peer.kept g.P.Peer.sure c.ask_value.new.peer in
    let s = signature_of c.args.p.now.signature in
    let names = names_of c.args.p.now in
    let ds = map object_of (take c.in-App.n c.in-App.args) in
    let f = c.in-App.fun.0 in
    let before = map inner_of c.args.told.now.items in
    let t_is : inner_of c.args.t.now ≡ Apply f ds = ap inner_of c.in-App.is in
    let opens : Opens (texts_in c.args.questions.now) (value_question names (lifted (Apply f ds)) ∷ []) = subst (λ t. Opens (texts_in c.args.questions.now) (argument_questions names (t ∷ []))) t_is c.requires.questions in
    let question_is : c.as_slice.result.now ≡ value_question names (lifted (Apply f ds)) = c.as_slice.ensures.value ∙ ap (λ v. v.items) c.index-questions-0.is ∙ first_question c.args.questions.now _ _ opens.0 opens.1 in
    let term_is : term_of c.as_term.result ≡ lifted (Apply f ds) = c.as_term.ensures.says ∙ ap lifted t_is in
    let first = subst (λ question. EndsIn (asking (object_named names (range_of s (lifted (Apply f ds)))) question) c.args.k c.in-Err.stop m m') question_is
    (subst (λ t. EndsIn (asking (object_named names (range_of s t)) c.as_slice.result.now) c.args.k c.in-Err.stop m m') term_is c.in-Err.ensures) in
    subst (λ t. EndsIn (each_behind s names before (t ∷ [])) c.args.k c.in-Err.stop m m') (sym t_is) (value_ends s names before f ds c.args.k c.in-Err.stop m m' first)
