use Rattle.std.proofs.Common.{◌∙◌, List, [], ℕ, IfSome, Err, refl, sym, ap, subst}
use Rattle.std.proofs.lemmas.Option.{IfSome_then}
use Rattle.std.specs.Io.KnownBytes.{Appends}
use Rattle.pks_io.specs.Writing.{AppendsFront}
use Rattle.pks_terms.specs.Jobs.{Agent}
use Rattle.pks_terms.specs.Printed.{refusal_text}
use Rattle.pks_terms.specs.Answers.{refusal}
use Rattle.pks_terms.specs.Talk.{file_text}
use Rattle.pks_agent.specs.Streams.{coming, HasFile, ReadsFront}
use Rattle.pks_reader.specs.Inputs.{line_and_column, too_long}
use Rattle.pks_run.specs.declared.status.Status.TheVariants.{Refused}
use Rattle.pks_run.proofs.Reading.{begins_at, long_file, long_fault, one_fault}
use Rattle.pks_run.proofs.Replying.{fault_replied}
use Rattle.pks_run.proofs.Sending.{reply_sent, faulty_unled, so_of_any, refused_done}
use Rattle.pks_run.proofs.lead.lead.Goals as goal

pub returns-in-Ok-too_long-clause-told : goal.returns-in-Ok-too_long-clause-told
returns-in-Ok-too_long-clause-told g c =
    let n = c.args.depth in
    let left = g.S.Source.left c.args.source.now in
    let after = g.S.Source.left c.read_file_text.new.source in
    let old = g.K.Sink.written c.args.sink.now in
    let new = g.K.Sink.written c.send.new.sink in
    let line = c.in-Ok-too_long.line.items in
    let told = subst (λ e. IfSome left (ReadsFront 262144 after (Err e))) c.in-Err-TooLong.field-0-is c.in-Err-TooLong.ensures.told in
    IfSome_then left told (λ input long.
    let text = file_text input in
    let one = one_fault text (0, 100) (long_file text long) (long_fault text long) in
    let reply = fault_replied (Agent n) input text refl (line_and_column text 0) 100 (0, too_long long, refl) one line
    (c.in-Ok-too_long.ensures ∙ ap (λ a. refusal_text (refusal a 100 [])) (begins_at text)) in
    so_of_any n input old new after c.send.result (reply_sent n input old new after Refused line reply tt refused_done (faulty_unled n input (line_and_column text 0) 100 one) c.send.result
    (λ h. let sent = c.send.ensures.whole h in (sent.0, subst (λ (t : List ℕ). Appends old new t) c.deref-in-Ok-too_long.ensures.value sent.1))
    (λ e. subst (λ (t : List ℕ). AppendsFront old new t) c.deref-in-Ok-too_long.ensures.value (c.send.ensures.fault e).1) c.send.ensures.either))

pub returns-in-Ok-clause-told : goal.returns-in-Ok-clause-told
returns-in-Ok-clause-told g c =
    let now = g.S.Source.left c.read_file_text.new.source in
    IfSome_then (g.S.Source.left c.args.source.now) c.in-Ok.ensures.told (λ input has.
    so_of_any c.args.depth input (g.K.Sink.written c.args.sink.now) (g.K.Sink.written c.lead_text.new.sink) (g.S.Source.left c.lead_text.new.source) c.lead_text.result
    (c.lead_text.ensures.told input (subst (λ (t : List ℕ). HasFile input (coming c.in-Ok.ahead now) t) (sym c.deref.ensures.value) has)))
