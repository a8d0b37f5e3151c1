use Rattle.std.proofs.Common.{◌≤◌, length, ◌≡◌, ◌∙◌, IfSome, ap, subst}
use Rattle.pks_terms.specs.Answers.{Reading, ReadAs}
use Rattle.pks_terms.specs.Talk.{talk, file_text, stop_line, answers_in}
use Rattle.pks_plan.specs.TreeViews.{tree_of}
use Rattle.pks_plan.proofs.Declared.{names_of_valid}
use Rattle.pks_agent.specs.declared.ahead.ReadAhead.{ReadAhead}
use Rattle.pks_agent.specs.Leading.{Led}
use Rattle.pks_agent.specs.Streams.{ahead_of, coming, answers_coming}
use Rattle.pks_reader.specs.Inputs.{Reads, IsRead}
use Rattle.pks_reader.specs.Views.{file_of}
use Rattle.pks_run.proofs.Dialogues.{well_led, comes_to}
use Rattle.pks_run.proofs.Sending.{stop_counted, answers_to_come, memory_conversed}
use Rattle.pks_run.proofs.lead.lead_through.Goals as goal

pub returns-in-Ok-clause-told : goal.returns-in-Ok-clause-told
returns-in-Ok-clause-told g c = λ input has.
    let f = file_of c.args.f.now in
    let n = c.args.opening.depth in
    let t = tree_of c.args.t.now in
    let old = g.K.Sink.written c.args.sink.now in
    let mid = g.K.Sink.written c.converse_over-ended.new.sink in
    let left = g.S.Source.left c.converse_over-ended.new.source in
    let read : IsRead (file_text input) f = subst (λ x. IsRead x f) has.file c.requires.read in
    let one : (x : Reading) → Reads (file_text input) x → x ≡ ReadAs f = subst (λ y. (x : Reading) → Reads y x → x ≡ ReadAs f) has.file c.requires.one in
    let well = well_led n input f read one c.requires.fine t c.requires.best c.requires.whole.valid.says (names_of_valid c.args.f.now.problem c.requires.whole.valid) in
    let led : (kept : ReadAhead) × (length (ahead_of kept) ≤ 512) × Led old mid (answers_in input) (answers_coming (coming kept left)) c.converse_over-ended.result (talk f.problem.signature f.names t (answers_in input)) =
    subst (λ o. IfSome o (λ answers. (kept : ReadAhead) × (length (ahead_of kept) ≤ 512) × Led old mid answers (answers_coming (coming kept left)) c.converse_over-ended.result (talk f.problem.signature f.names t answers)))
    (answers_to_come input (coming c.args.opening.ahead (g.S.Source.left c.args.source.now)) c.args.opening.text.now has) c.converse_over-ended.ensures.led in
    let stop : c.line_column_behind-stop.result.0 ≡ stop_line input = ap (λ p. p.0) c.line_column_behind-stop.ensures ∙ stop_counted c.args.opening.text.now input has.file in
    comes_to n input f read one c.requires.fine t c.requires.best c.requires.whole.valid.says well old mid (g.K.Sink.written c.conclude.new.sink) left (g.K.Sink.faults c.converse_over-ended.new.sink)
    (g.K.Sink.faults c.conclude.new.sink) c.line_column_behind-stop.result.0 stop led.0 led.1 c.converse_over-ended.result c.conclude.result led.2 c.conclude.ensures

pub returns-in-Err-clause-told : goal.returns-in-Err-clause-told
returns-in-Err-clause-told g c = λ input has. memory_conversed c.args.opening.depth input (g.K.Sink.written c.args.sink.now) (g.S.Source.left c.args.source.now)
