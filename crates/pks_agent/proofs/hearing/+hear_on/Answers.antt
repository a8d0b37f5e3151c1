use Rattle.std.proofs.Common.{◌≡◌, ◌<◌, ◌+◌, ◌-◌, ◌∷◌, ◌++◌, [], Ok, true, false, nat_eq, length, ap, ◌∙◌, subst, eq-eqb, ne_eqb, arith}
use Rattle.std.specs.Io.KnownBytes.{Consumes}
use Rattle.std.proofs.lemmas.List.{length-append}
use Rattle.pks_agent.specs.Answers.{answer_text}
use Rattle.pks_agent.specs.Streams.{coming, has_no_feed, GivesByte}
use Rattle.pks_agent.proofs.Lines.{no_feed_more}
use Rattle.pks_agent.proofs.Streams.{heard_line, heard_long}
use Rattle.pks_agent.proofs.hearing.+hear_on.Goals as goal

pub hear_on-requires : goal.hear_on-requires
hear_on-requires g t c κs within =
    let held = answer_text c.args.into.now in
    let b = c.in-Ok-Some.byte in
    let no_feed : nat_eq b 10 ≡ false = ne_eqb b 10 c.if-byte-eq10.false in
    let more : answer_text c.push.new.self ≡ held ++ b ∷ [] = c.push.ensures.held c.if-push.true in
    let few : length held < 64 = c.push.ensures.room c.if-push.true in
    let longer : length (answer_text c.push.new.self) ≡ length held + 1 = ap length more ∙ length-append held (b ∷ []) in
    let less : 64 - length (answer_text c.push.new.self) < t = omega (arith, c.decreases, few, longer) in
    let still : has_no_feed (answer_text c.push.new.self) ≡ true = ap has_no_feed more ∙ no_feed_more held b c.requires.no_feed no_feed in
    (less, (within, still))

pub returns-then-byte-eq10-clause-hears : goal.returns-then-byte-eq10-clause-hears
returns-then-byte-eq10-clause-hears g t c =
    let old = coming c.args.ahead.now (g.S.Source.left c.args.source.now) in
    let new = coming c.next.new.self (g.S.Source.left c.next.new.source) in
    let b = c.in-Ok-Some.byte in
    let took : Consumes old new (b ∷ []) = subst (λ o. GivesByte old new (Ok o)) c.in-Ok-Some.field-0-is c.in-Ok-Some.ensures.byte in
    heard_line (answer_text c.args.into.now) b old new c.requires.no_feed (eq-eqb b 10 c.if-byte-eq10.true) took

pub returns-else-push-clause-hears : goal.returns-else-push-clause-hears
returns-else-push-clause-hears g t c =
    let old = coming c.args.ahead.now (g.S.Source.left c.args.source.now) in
    let new = coming c.next.new.self (g.S.Source.left c.next.new.source) in
    let held = answer_text c.args.into.now in
    let b = c.in-Ok-Some.byte in
    let took : Consumes old new (b ∷ []) = subst (λ o. GivesByte old new (Ok o)) c.in-Ok-Some.field-0-is c.in-Ok-Some.ensures.byte in
    heard_long held held b old new c.requires.no_feed (ne_eqb b 10 c.if-byte-eq10.false) (c.push.ensures.full c.if-push.false) took
