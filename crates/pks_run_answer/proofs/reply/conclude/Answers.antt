use Rattle.std.proofs.Common.{sym, subst}
use Rattle.std.proofs.lemmas.Result.{IfOk-weaker}
use Rattle.pks_terms.specs.Answers.{RefusesFile, NoneApplies}
use Rattle.pks_query_lookup.specs.Fives.{five_of}
use Rattle.pks_world.specs.Contents.{world_of}
use Rattle.pks_run_words.specs.declared.job.Job.{Job}
use Rattle.pks_run_words.specs.JobViews.{job_of}
use Rattle.pks_reader.specs.Views.{file_of}
use Rattle.pks_run_answer.specs.declared.reply.Verdict.TheVariants.{Done}
use Rattle.pks_run_answer.specs.Accepting.{IsRunIn}
use Rattle.pks_run_answer.specs.Replies.{IsReply}
use Rattle.pks_run_answer.proofs.Accepting.{none_applies}
use Rattle.pks_run_answer.proofs.Planning.{run_is_given, run_is_stated, plan_reply, run_reply, bench_reply, recall_reply, explain_reply, derive_reply, shared_reply}
use Rattle.pks_run_answer.proofs.reply.conclude.Goals as goal

pub returns-in_ok-accepted_text-in-Check : goal.returns-in_ok-accepted_text-in-Check
returns-in_ok-accepted_text-in-Check c =
    let f = file_of c.args.f.now in
    let text = c.in_ok-accepted_text-in-Check.field-0.items in
    subst (λ (j : Job). NoneApplies (RefusesFile (job_of j) f) → IsReply (job_of j) f Done text) (sym c.in-Check.is) (λ none. (none, λ input. c.in_ok-accepted_text-in-Check.ensures))
    (none_applies (job_of c.args.job) f (five_of c.args.accepted.first) c.args.accepted.world c.requires.accepts)

pub returns-in-Plan : goal.returns-in-Plan
returns-in-Plan c =
    let f = file_of c.args.f.now in
    IfOk-weaker c.plan.result _ _ (λ a plans.
    subst (λ (j : Job). NoneApplies (RefusesFile (job_of j) f) → IsReply (job_of j) f a.0 a.1.items) (sym c.in-Plan.is) (λ none. plan_reply c.in-Plan.depth f a.0 a.1.items none plans)
    (none_applies (job_of c.args.job) f (five_of c.args.accepted.first) c.args.accepted.world c.requires.accepts)) c.plan.ensures

pub world_of_run-requires : goal.world_of_run-requires
world_of_run-requires c =
    run_is_given c.in-Exec.depth (file_of c.args.f.now).world c.args.accepted.world
    (subst (λ (j : Job). IsRunIn (job_of j) (file_of c.args.f.now).world c.args.accepted.world) c.in-Exec.is c.requires.accepts.run)

pub returns-in-Exec : goal.returns-in-Exec
returns-in-Exec c =
    let f = file_of c.args.f.now in
    IfOk-weaker c.plan-in-Exec.result _ _ (λ a plans.
    subst (λ (j : Job). NoneApplies (RefusesFile (job_of j) f) → IsReply (job_of j) f a.0 a.1.items) (sym c.in-Exec.is)
    (λ none. run_reply c.in-Exec.depth f (world_of c.world_of_run.result.now) a.0 a.1.items
    (run_is_stated c.in-Exec.depth f.world c.args.accepted.world c.world_of_run.result.now c.world_of_run.ensures
    (subst (λ (j : Job). IsRunIn (job_of j) f.world c.args.accepted.world) c.in-Exec.is c.requires.accepts.run)) none plans)
    (none_applies (job_of c.args.job) f (five_of c.args.accepted.first) c.args.accepted.world c.requires.accepts)) c.plan-in-Exec.ensures

pub returns-in-Bench : goal.returns-in-Bench
returns-in-Bench c =
    let f = file_of c.args.f.now in
    IfOk-weaker c.plan-in-Bench.result _ _ (λ a plans.
    subst (λ (j : Job). NoneApplies (RefusesFile (job_of j) f) → IsReply (job_of j) f a.0 a.1.items) (sym c.in-Bench.is) (λ none. bench_reply c.in-Bench.n f a.0 a.1.items none plans)
    (none_applies (job_of c.args.job) f (five_of c.args.accepted.first) c.args.accepted.world c.requires.accepts)) c.plan-in-Bench.ensures

pub returns-in-Recall : goal.returns-in-Recall
returns-in-Recall c =
    let f = file_of c.args.f.now in
    IfOk-weaker c.plan-in-Recall.result _ _ (λ a plans.
    subst (λ (j : Job). NoneApplies (RefusesFile (job_of j) f) → IsReply (job_of j) f a.0 a.1.items) (sym c.in-Recall.is) (λ none. recall_reply c.in-Recall.depth f a.0 a.1.items none plans)
    (none_applies (job_of c.args.job) f (five_of c.args.accepted.first) c.args.accepted.world c.requires.accepts)) c.plan-in-Recall.ensures

pub returns-in-Explain : goal.returns-in-Explain
returns-in-Explain c =
    let f = file_of c.args.f.now in
    IfOk-weaker c.plan-in-Explain.result _ _ (λ a plans.
    subst (λ (j : Job). NoneApplies (RefusesFile (job_of j) f) → IsReply (job_of j) f a.0 a.1.items) (sym c.in-Explain.is) (λ none. explain_reply c.in-Explain.depth f a.0 a.1.items none plans)
    (none_applies (job_of c.args.job) f (five_of c.args.accepted.first) c.args.accepted.world c.requires.accepts)) c.plan-in-Explain.ensures

pub returns-in_ok-derive-in-Derive : goal.returns-in_ok-derive-in-Derive
returns-in_ok-derive-in-Derive c =
    let f = file_of c.args.f.now in
    let text = c.in_ok-derive-in-Derive.field-0.items in
    subst (λ (j : Job). NoneApplies (RefusesFile (job_of j) f) → IsReply (job_of j) f Done text) (sym c.in-Derive.is) (λ none. derive_reply f text none c.in_ok-derive-in-Derive.ensures)
    (none_applies (job_of c.args.job) f (five_of c.args.accepted.first) c.args.accepted.world c.requires.accepts)

pub returns-in-Shared : goal.returns-in-Shared
returns-in-Shared c =
    let f = file_of c.args.f.now in
    IfOk-weaker c.plan-in-Shared.result _ _ (λ a plans.
    subst (λ (j : Job). NoneApplies (RefusesFile (job_of j) f) → IsReply (job_of j) f a.0 a.1.items) (sym c.in-Shared.is) (λ none. shared_reply c.in-Shared.depth f a.0 a.1.items none plans)
    (none_applies (job_of c.args.job) f (five_of c.args.accepted.first) c.args.accepted.world c.requires.accepts)) c.plan-in-Shared.ensures
