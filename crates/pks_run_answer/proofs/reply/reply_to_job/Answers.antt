use Rattle.std.proofs.Common.{◌∙◌, ap, subst}
use Rattle.pks_terms.specs.Printed.{refusal_text}
use Rattle.pks_terms.specs.Answers.{RefusesFile}
use Rattle.pks_run_words.specs.JobViews.{job_of}
use Rattle.pks_reader.specs.Views.{file_of}
use Rattle.pks_run_answer.specs.Accepting.{printed_of, IfRefused}
use Rattle.pks_run_answer.proofs.reply.reply_to_job.Goals as goal

pub returns-in_ok-file_line-in-Err-Refused : goal.returns-in_ok-file_line-in-Err-Refused
returns-in_ok-file_line-in-Err-Refused c =
    let f = c.args.f.now in
    let r = c.in-Err-Refused.r in
    let refused : RefusesFile (job_of c.args.job) (file_of f) (printed_of f r) =
    subst (IfRefused f (RefusesFile (job_of c.args.job) (file_of f))) c.in-Err-Refused.field-0-is c.in-Err-Refused.ensures.refused
    in (printed_of f r, refused, c.in_ok-file_line-in-Err-Refused.ensures ∙ ap (λ x. refusal_text (printed_of f x)) c.in-Err-Refused.r-is)
