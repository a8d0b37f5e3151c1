use Rattle.std.proofs.Common.{sym, subst}
use Rattle.pks_run_words.specs.JobViews.{job_of}
use Rattle.pks_reader.specs.Views.{file_of}
use Rattle.pks_run.specs.Answer.{IsReplyTo}
use Rattle.pks_run.proofs.Replying.{file_replied, about_single}
use Rattle.pks_run.proofs.answer.about_file.Goals as goal

pub returns : goal.returns
returns c = λ given about.
    let j = job_of c.args.job in
    let text = c.in_ok-verdict.text.items in
    subst (λ s. IsReplyTo j given s text) (sym c.status_for.ensures)
    (file_replied j given c.args.input.now about (file_of c.args.file.now) c.requires.read c.requires.one (about_single j c.args.input.now c.requires.about) c.in_ok-verdict.verdict text c.in_ok-verdict.ensures)
