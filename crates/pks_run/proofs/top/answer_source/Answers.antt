use Rattle.std.proofs.Common.{◌∙◌, ℕ, List, [], IfSome, Err, refl, ap, subst}
use Rattle.std.proofs.lemmas.Option.{IfSome_then}
use Rattle.pks_io.specs.Reading.{ReadsAll}
use Rattle.pks_terms.specs.Printed.{refusal_text}
use Rattle.pks_terms.specs.Answers.{refusal}
use Rattle.pks_run_words.specs.JobViews.{job_of}
use Rattle.pks_reader.specs.Inputs.{line_and_column, too_long}
use Rattle.pks_run.specs.Answer.{IsReplyTo}
use Rattle.pks_run.proofs.Reading.{begins_at, long_file, long_fault, one_fault as one_reading}
use Rattle.pks_run.proofs.Replying.{text_is, fault_replied, answer_kind}
use Rattle.pks_run.proofs.top.answer_source.Goals as goal

pub returns-in_ok-replied-in-Ok-clause-replies : goal.returns-in_ok-replied-in-Ok-clause-replies
returns-in_ok-replied-in-Ok-clause-replies g c =
    let j = job_of c.args.job in
    let status = c.in_ok-replied-in-Ok.replied.0 in
    let text = c.in_ok-replied-in-Ok.replied.1.items in
    let reply : IsReplyTo j c.deref.result.now status text = c.in_ok-replied-in-Ok.ensures c.deref.result.now (text_is j c.deref.result.now c.requires.reads c.requires.single) in
    record {
      kind = answer_kind j c.deref.result.now status text reply.answers;
      told = IfSome_then (g.S.Source.left c.args.source.now) c.in-Ok.ensures.told (λ input told. subst (λ (t : List ℕ). IsReplyTo j t status text) (c.deref.ensures.value ∙ told.0) reply);
    }

pub returns-in_ok-text-in-Err-TooLong-clause-replies : goal.returns-in_ok-text-in-Err-TooLong-clause-replies
returns-in_ok-text-in-Err-TooLong-clause-replies g c =
    let j = job_of c.args.job in
    let told = subst (λ e. IfSome (g.S.Source.left c.args.source.now) (λ left. ReadsAll left 262144 (Err e))) c.in-Err-TooLong.field-0-is c.in-Err-TooLong.ensures.told in
    record {
      kind = tt;
      told = IfSome_then (g.S.Source.left c.args.source.now) told (λ input long.
          fault_replied j input input (text_is j input c.requires.reads c.requires.single) (line_and_column input 0) 100 (0, too_long long, refl)
          (one_reading input (0, 100) (long_file input long) (long_fault input long)) c.in_ok-text-in-Err-TooLong.text.items
          (c.in_ok-text-in-Err-TooLong.ensures ∙ ap (λ a. refusal_text (refusal a 100 [])) (begins_at input)));
    }
