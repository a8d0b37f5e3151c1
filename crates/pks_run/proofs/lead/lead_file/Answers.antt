use Rattle.std.proofs.Common.{◌≡◌, List, ℕ, subst}
use Rattle.std.specs.Io.KnownBytes.{Appends}
use Rattle.pks_io.specs.Writing.{AppendsFront}
use Rattle.pks_terms.specs.Jobs.{Agent}
use Rattle.pks_terms.specs.Printed.{Refusal, refusal_text}
use Rattle.pks_terms.specs.Answers.{Reading, ReadAs, NoneApplies, RefusesFile, IsUnplanned}
use Rattle.pks_terms.specs.Talk.{file_text}
use Rattle.pks_reader.specs.Inputs.{Reads, IsRead}
use Rattle.pks_reader.specs.Views.{file_of}
use Rattle.pks_run.specs.declared.status.Status.TheVariants.{NoPlan, Refused}
use Rattle.pks_run_answer.specs.declared.leads.Lead.{Lead}
use Rattle.pks_run_answer.specs.Replies.{IsLead}
use Rattle.pks_run.proofs.Dialogues.{file_refused, file_unplanned, refused_unled, unplanned_unled}
use Rattle.pks_run.proofs.Sending.{reply_sent, memory_conversed, no_plan_done, refused_done}
use Rattle.pks_run.proofs.lead.lead_file.Goals as goal

pub returns-in-Ok-NoPlan-clause-told : goal.returns-in-Ok-NoPlan-clause-told
returns-in-Ok-NoPlan-clause-told g c = λ input has.
    let f = file_of c.args.f.now in
    let n = c.args.opening.depth in
    let old = g.K.Sink.written c.args.sink.now in
    let new = g.K.Sink.written c.send.new.sink in
    let text = c.in-Ok-NoPlan.line.items in
    let read : IsRead (file_text input) f = subst (λ x. IsRead x f) has.file c.requires.read in
    let one : (x : Reading) → Reads (file_text input) x → x ≡ ReadAs f = subst (λ y. (x : Reading) → Reads y x → x ≡ ReadAs f) has.file c.requires.one in
    let told : NoneApplies (RefusesFile (Agent n) f) × IsUnplanned (Agent n) f text = subst (λ (x : Lead). IsLead n f x) c.in-Ok-NoPlan.field-0-is c.in-Ok-NoPlan.ensures in
    let reply = file_unplanned n input f read one told.0 text told.1 in
    reply_sent n input old new (g.S.Source.left c.args.source.now) NoPlan text reply tt no_plan_done (unplanned_unled n input f read one text told.1) c.send.result
    (λ h. let sent = c.send.ensures.whole h in (sent.0, subst (λ (t : List ℕ). Appends old new t) c.deref.ensures.value sent.1))
    (λ e. subst (λ (t : List ℕ). AppendsFront old new t) c.deref.ensures.value (c.send.ensures.fault e).1) c.send.ensures.either

pub returns-in-Ok-Refused-clause-told : goal.returns-in-Ok-Refused-clause-told
returns-in-Ok-Refused-clause-told g c = λ input has.
    let f = file_of c.args.f.now in
    let n = c.args.opening.depth in
    let old = g.K.Sink.written c.args.sink.now in
    let new = g.K.Sink.written c.send-in-Ok-Refused.new.sink in
    let text = c.in-Ok-Refused.line.items in
    let read : IsRead (file_text input) f = subst (λ x. IsRead x f) has.file c.requires.read in
    let one : (x : Reading) → Reads (file_text input) x → x ≡ ReadAs f = subst (λ y. (x : Reading) → Reads y x → x ≡ ReadAs f) has.file c.requires.one in
    let refuses : (r : Refusal) × RefusesFile (Agent n) f r × (text ≡ refusal_text r) = subst (λ (x : Lead). IsLead n f x) c.in-Ok-Refused.field-0-is c.in-Ok-Refused.ensures in
    let reply = file_refused n input f read one refuses.0 text refuses.1 refuses.2 in
    reply_sent n input old new (g.S.Source.left c.args.source.now) Refused text reply tt refused_done (refused_unled n input f read one refuses.0 refuses.1) c.send-in-Ok-Refused.result
    (λ h. let sent = c.send-in-Ok-Refused.ensures.whole h in (sent.0, subst (λ (t : List ℕ). Appends old new t) c.deref-in-Ok-Refused.ensures.value sent.1))
    (λ e. subst (λ (t : List ℕ). AppendsFront old new t) c.deref-in-Ok-Refused.ensures.value (c.send-in-Ok-Refused.ensures.fault e).1) c.send-in-Ok-Refused.ensures.either

pub returns-in-Err-clause-told : goal.returns-in-Err-clause-told
returns-in-Err-clause-told g c = λ input has. memory_conversed c.args.opening.depth input (g.K.Sink.written c.args.sink.now) (g.S.Source.left c.args.source.now)
