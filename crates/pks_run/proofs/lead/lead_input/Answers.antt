use Rattle.std.proofs.Common.{◌≡◌, List, ℕ, sym, subst}
use Rattle.std.specs.Io.KnownBytes.{Appends}
use Rattle.pks_io.specs.Writing.{AppendsFront}
use Rattle.pks_terms.specs.Jobs.{Agent}
use Rattle.pks_terms.specs.Answers.{Reading, Faulty}
use Rattle.pks_reader.specs.Inputs.{Reads}
use Rattle.pks_run.specs.Opening.{OpensAs}
use Rattle.pks_run.specs.declared.status.Status.TheVariants.{Refused}
use Rattle.pks_run.proofs.Replying.{fault_replied}
use Rattle.pks_run.proofs.Sending.{reply_sent, faulty_unled, refused_done}
use Rattle.pks_run.proofs.lead.lead_input.Goals as goal

pub lead_file-requires-clause-whole : goal.lead_file-requires-clause-whole
lead_file-requires-clause-whole g c = (subst (OpensAs c.args.opening.text.now) c.in-File.is c.requires.opens).whole

pub lead_file-requires-clause-read : goal.lead_file-requires-clause-read
lead_file-requires-clause-read g c = (subst (OpensAs c.args.opening.text.now) c.in-File.is c.requires.opens).read

pub lead_file-requires-clause-one : goal.lead_file-requires-clause-one
lead_file-requires-clause-one g c = (subst (OpensAs c.args.opening.text.now) c.in-File.is c.requires.opens).one

pub returns-in-Refused-clause-told : goal.returns-in-Refused-clause-told
returns-in-Refused-clause-told g c = λ input has.
    let n = c.args.opening.depth in
    let text = c.args.opening.text.now in
    let old = g.K.Sink.written c.args.sink.now in
    let new = g.K.Sink.written c.send.new.sink in
    let line = c.in-Refused.line.items in
    let refused = subst (OpensAs text) c.in-Refused.is c.requires.opens in
    let reply = fault_replied (Agent n) input text (sym has.file) refused.at refused.code refused.faulty refused.one line refused.says in
    reply_sent n input old new (g.S.Source.left c.args.source.now) Refused line reply tt refused_done (faulty_unled n input refused.at refused.code (subst (λ y. (x : Reading) → Reads y x → x ≡ Faulty refused.at refused.code) has.file refused.one)) c.send.result
    (λ h. let sent = c.send.ensures.whole h in (sent.0, subst (λ (t : List ℕ). Appends old new t) c.as_slice.ensures.value sent.1))
    (λ e. subst (λ (t : List ℕ). AppendsFront old new t) c.as_slice.ensures.value (c.send.ensures.fault e).1) c.send.ensures.either
