use Rattle.std.proofs.Common.{◌≡◌, ◌∙◌, Err, map, string_bytes, refl, ap, subst}
use Rattle.pks_run_words.specs.JobViews.{job_of, AskForOne}
use Rattle.pks_terms.specs.Jobs.{Job, Agent}
use Rattle.pks_run.specs.Answer.{IsBench, IsDialogue}
use Rattle.pks_run.specs.declared.top.Unanswered.TheVariants.{Fault}
use Rattle.pks_run.proofs.Replying.{asked_in_bounds, replies_respond, usage_responds}
use Rattle.pks_run.proofs.top.respond.Goals as goal

pub returns-in-Ok-answer_job-clause-responds : goal.returns-in-Ok-answer_job-clause-responds
returns-in-Ok-answer_job-clause-responds g c =
    replies_respond (map string_bytes c.args.words.now) (job_of c.in-Ok.job) (g.S.Source.left c.args.source.now) c.in-Ok-answer_job.status c.in-Ok-answer_job.text.items c.in-Ok.ensures.ok c.in-Ok-answer_job.ensures.replies

pub returns-in_ok-text-in-Err-Refused-clause-responds : goal.returns-in_ok-text-in-Err-Refused-clause-responds
returns-in_ok-text-in-Err-Refused-clause-responds g c =
    usage_responds (map string_bytes c.args.words.now) (c.in-Err-Refused.ensures.refused (ap (λ t. Err t) c.in-Err-Refused.field-0-is)) c.in_ok-text-in-Err-Refused.text.items
    c.in_ok-text-in-Err-Refused.ensures (g.S.Source.left c.args.source.now)

pub returns-in-Ok-answer_job-clause-unasked : goal.returns-in-Ok-answer_job-clause-unasked
returns-in-Ok-answer_job-clause-unasked g c = λ nothing. absurd (nothing (job_of c.in-Ok.job) c.in-Ok.ensures.ok.0)

pub returns-in-Err-clause-unasked : goal.returns-in-Err-clause-unasked
returns-in-Err-clause-unasked g c = λ nothing. absurd (nothing (job_of c.in-Ok.job) c.in-Ok.ensures.ok.0)

pub returns-in-Err-clause-fault : goal.returns-in-Err-clause-fault
returns-in-Err-clause-fault g c = λ e.
    let same : c.in-Err.none ≡ Fault = cc in
    let fault = c.in-Err.ensures.fault (ap (λ t. Err t) same) in (fault.0, (job_of c.in-Ok.job, c.in-Ok.ensures.ok.0, fault.1))

pub returns-in-Ok-answer_job-clause-end : goal.returns-in-Ok-answer_job-clause-end
returns-in-Ok-answer_job-clause-end g c = λ job asks reads. c.in-Ok-answer_job.ensures.end (subst (λ (j : Job). IsBench j → ⊥) (c.in-Ok.ensures.ok.1 job asks) reads)

pub returns-in-Ok-answer_job-clause-unread : goal.returns-in-Ok-answer_job-clause-unread
returns-in-Ok-answer_job-clause-unread g c = λ job asks bench. c.in-Ok-answer_job.ensures.unread (subst IsBench (c.in-Ok.ensures.ok.1 job asks) bench)

pub returns-in-Err-clause-unread : goal.returns-in-Err-clause-unread
returns-in-Err-clause-unread g c = λ job asks bench. c.in-Err.ensures.unread (subst IsBench (c.in-Ok.ensures.ok.1 job asks) bench)

pub answer_job-requires-clause-bounds : goal.answer_job-requires-clause-bounds
answer_job-requires-clause-bounds g c = asked_in_bounds (map string_bytes c.args.words.now) (job_of c.in-Ok.job) c.in-Ok.ensures.ok.0

pub returns-in-Some-clause-unasked : goal.returns-in-Some-clause-unasked
returns-in-Some-clause-unasked g c = λ nothing. absurd (nothing (job_of c.in-Ok.job) c.in-Ok.ensures.ok.0)

pub returns-in-Some-clause-dialogue : goal.returns-in-Some-clause-dialogue
returns-in-Some-clause-dialogue g c = λ n e.
    let same : c.in-Some.depth ≡ n = cc in
    (subst (λ (j : Job). AskForOne (map string_bytes c.args.words.now) j) (c.in-Some.ensures ∙ ap (λ k. Agent k) same) c.in-Ok.ensures.ok, refl)

pub returns-in-Ok-answer_job-clause-single : goal.returns-in-Ok-answer_job-clause-single
returns-in-Ok-answer_job-clause-single g c = λ n asks. c.in-None.ensures (subst IsDialogue (c.in-Ok.ensures.ok.1 (Agent n) asks) tt)

pub returns-in_ok-text-in-Err-Refused-clause-single : goal.returns-in_ok-text-in-Err-Refused-clause-single
returns-in_ok-text-in-Err-Refused-clause-single g c = λ n asks. c.in-Err-Refused.ensures.refused (ap (λ t. Err t) c.in-Err-Refused.field-0-is) (Agent n) asks
