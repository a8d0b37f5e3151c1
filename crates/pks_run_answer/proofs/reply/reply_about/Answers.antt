use Rattle.std.proofs.Common.{subst}
use Rattle.pks_run_words.specs.JobViews.{job_of}
use Rattle.pks_reader.specs.Views.{file_of}
use Rattle.pks_run_answer.specs.Replies.{IsReply}
use Rattle.pks_run_answer.proofs.OneReply.{other_reply, good_reply, told_reply}
use Rattle.pks_run_answer.proofs.reply.reply_about.Goals as goal

pub returns : goal.returns
returns c =
    let j = job_of c.args.job in
    let f = file_of c.args.f.now in
    let text = c.in_ok-answer.answer.1.items in
    record {
      reply = c.in_ok-answer.ensures;
      only = λ v other is. other_reply j f c.in_ok-answer.answer.0 v text other c.in_ok-answer.ensures is;
      good = λ done. good_reply j f text c.requires.whole.valid.says (subst (λ v. IsReply j f v text) done c.in_ok-answer.ensures);
      told = λ done. told_reply j f text c.requires.whole.valid.says (subst (λ v. IsReply j f v text) done c.in_ok-answer.ensures);
    }
