use Rattle.std.proofs.Common.{sym, ap, subst}
use Rattle.pks_terms.specs.Moments.{IsMomentOf}
use Rattle.pks_terms.specs.Views.{instance_of, problem_of}
use Rattle.pks_laws.proofs.SearchStates.{last_of_it}
use Rattle.pks_query_lookup.specs.Fives.{five_of}
use Rattle.pks_query.specs.Steps.{outcome_of}
use Rattle.pks_history_replay.proofs.Stepping.{act_clash, act_next}
use Rattle.pks_history_replay.proofs.states.after.Goals as goal

pub progress-requires-clause-moment : goal.progress-requires-clause-moment
progress-requires-clause-moment c = subst (IsMomentOf (problem_of c.args.p.now).signature) (sym c.last.ensures) (last_of_it (problem_of c.args.p.now) c.requires.valid.says c.args.h.now c.requires.moments)

pub returns-in-Clash : goal.returns-in-Clash
returns-in-Clash c =
    act_clash (problem_of c.args.p.now) c.args.h.now (five_of c.last.result.now) c.last.ensures (instance_of c.args.step.now) (outcome_of c.in_ok-progress.field-0) _ (ap outcome_of c.in-Clash.is) c.in_ok-progress.ensures.progress

pub returns-in_ok-push-in-Next : goal.returns-in_ok-push-in-Next
returns-in_ok-push-in-Next c =
    act_next (problem_of c.args.p.now) c.args.h.now (five_of c.last.result.now) c.last.ensures (instance_of c.args.step.now) (outcome_of c.in_ok-progress.field-0) (five_of c.in-Next.d) c.in_ok-push-in-Next.field-0 (ap outcome_of c.in-Next.is)
    c.in_ok-progress.ensures.progress c.in_ok-push-in-Next.ensures
