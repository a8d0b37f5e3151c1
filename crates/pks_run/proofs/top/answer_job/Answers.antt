use Rattle.std.proofs.Common.{[], sym, subst}
use Rattle.pks_terms.specs.Jobs.{Job, Bench}
use Rattle.pks_run.specs.Answer.{Replies}
use Rattle.pks_run.proofs.Reading.{of_any}
use Rattle.pks_run.proofs.Replying.{answer_kind}
use Rattle.pks_run.proofs.top.answer_job.Goals as goal

pub returns-in_ok-replied-in-Some-clause-replies : goal.returns-in_ok-replied-in-Some-clause-replies
returns-in_ok-replied-in-Some-clause-replies g c =
    let left = g.S.Source.left c.args.source.now in
    let status = c.in_ok-replied-in-Some.replied.0 in
    let text = c.in_ok-replied-in-Some.replied.1.items in
    subst (λ (j : Job). Replies j left status text) (sym c.in-Some.ensures) (record {
      kind = answer_kind (Bench c.in-Some.n) [] status text (c.in_ok-replied-in-Some.ensures []).answers;
      told = of_any _ left (λ input. c.in_ok-replied-in-Some.ensures input);
    })
