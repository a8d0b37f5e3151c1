use Rattle.std.proofs.Common.{◌≡◌, ◌<◌, ◌+◌, [], ◌∷◌, ◌∙◌, Some, drop, length, inr, refl, sym, subst, arith}
use Rattle.pks_agent.specs.Answers.{answer_text}
use Rattle.pks_agent.specs.Hearing.{CutsLong, TakesNext}
use Rattle.pks_agent.specs.Rooms.{texts_in}
use Rattle.pks_agent.proofs.Serving.{next_is}
use Rattle.pks_agent.proofs.memory.MemPeer.take.Goals as goal

pub returns-then-len-gt64-clause-hears : goal.returns-then-len-gt64-clause-hears
returns-then-len-gt64-clause-hears c =
    let i = c.args.self.now.taken in
    let answer = c.in-Some.answer.now in
    let next : drop i (texts_in c.args.self.now.answers) ≡ answer.items ∷ drop (i + 1) (texts_in c.args.self.now.answers) =
    subst (λ xs. drop i (texts_in xs) ≡ answer.items ∷ drop (i + 1) (texts_in xs)) c.as_slice.ensures (next_is c.as_slice.result.now i answer c.in-Some.ensures.lookup.3.0 c.in-Some.ensures.lookup.1) in
    let long : 64 < length answer.items = omega (arith, c.if-len-gt64.true, c.len.ensures) in
    subst (λ l. CutsLong (Some l) (Some l)) (sym next) (long, inr ([], answer.items, refl, refl))

pub returns-else-len-gt64-clause-hears : goal.returns-else-len-gt64-clause-hears
returns-else-len-gt64-clause-hears c =
    let i = c.args.self.now.taken in
    let answer = c.in-Some.answer.now in
    let next : drop i (texts_in c.args.self.now.answers) ≡ answer.items ∷ drop (i + 1) (texts_in c.args.self.now.answers) =
    subst (λ xs. drop i (texts_in xs) ≡ answer.items ∷ drop (i + 1) (texts_in xs)) c.as_slice.ensures (next_is c.as_slice.result.now i answer c.in-Some.ensures.lookup.3.0 c.in-Some.ensures.lookup.1) in
    let text_is : answer_text c.hold.new.self ≡ answer.items = c.hold.ensures ∙ c.as_slice-in-Some.ensures.value in
    subst (λ l. TakesNext (Some l) (Some (drop (i + 1) (texts_in c.args.self.now.answers))) (answer_text c.hold.new.self)) (sym next) (text_is, refl)
