use Rattle.std.proofs.Common.{sym, ap, subst}
use Rattle.pks_terms.specs.Moments.{IsMomentOf}
use Rattle.pks_terms.specs.Settling.{At, Stopped}
use Rattle.pks_terms.specs.Views.{problem_of}
use Rattle.pks_laws.proofs.SearchStates.{last_of_it}
use Rattle.pks_query_lookup.specs.Fives.{five_of}
use Rattle.pks_query.specs.Steps.{outcome_of}
use Rattle.pks_postdict.specs.Ends as ends
use Rattle.pks_terms.specs.ChoiceViews.{choice_of, side_of}
use Rattle.pks_history_replay.proofs.Stepping.{take_clash, take_next}
use Rattle.pks_history_replay.proofs.states.taking.Goals as goal

pub assume-requires-clause-moment : goal.assume-requires-clause-moment
assume-requires-clause-moment c = subst (IsMomentOf (problem_of c.args.p.now).signature) (sym c.last.ensures) (last_of_it (problem_of c.args.p.now) c.requires.valid.says c.args.h.now c.requires.moments)

pub returns-in-Clash : goal.returns-in-Clash
returns-in-Clash c =
    take_clash (problem_of c.args.p.now) c.args.h.now (five_of c.last.result.now) c.last.ensures (choice_of c.args.c.now) (side_of c.args.side) (outcome_of c.in_ok-assume.field-0) _ (ap outcome_of c.in-Clash.is) c.in_ok-assume.ensures.assumes

pub returns-in-Clash-2 : goal.returns-in-Clash-2
returns-in-Clash-2 c =
    take_next (problem_of c.args.p.now) c.args.h.now (five_of c.last.result.now) c.last.ensures (choice_of c.args.c.now) (side_of c.args.side) (outcome_of c.in_ok-assume.field-0) (five_of c.in-Next.d) (ends.state_of c.in_ok-settle-in-Next.field-0) Stopped
    (ap outcome_of c.in-Next.is) c.in_ok-assume.ensures.assumes c.in_ok-settle-in-Next.ensures.settles (ap ends.state_of c.in-Clash-2.is)

pub returns-in-Whole : goal.returns-in-Whole
returns-in-Whole c =
    take_next (problem_of c.args.p.now) c.args.h.now (five_of c.last.result.now) c.last.ensures (choice_of c.args.c.now) (side_of c.args.side) (outcome_of c.in_ok-assume.field-0) (five_of c.in-Next.d) (ends.state_of c.in_ok-settle-in-Next.field-0) (At c.in-Whole.settled)
    (ap outcome_of c.in-Next.is) c.in_ok-assume.ensures.assumes c.in_ok-settle-in-Next.ensures.settles (ap ends.state_of c.in-Whole.is)
