use Rattle.std.proofs.Common.{◌≡◌, refl, sym, ap, subst}
use Rattle.pks_terms.specs.Sets.{IsIn}
use Rattle.pks_terms.specs.Branching.{choices, instances, Act}
use Rattle.pks_terms.specs.Closure.{Next}
use Rattle.pks_terms.specs.Settling.{last_moment, pushed}
use Rattle.pks_terms.specs.Views.{instance_of, problem_of}
use Rattle.pks_terms.specs.Moments.{IsMomentOf, AreMomentsOf}
use Rattle.pks_laws.proofs.SearchStates.{last_of_it, acts_of}
use Rattle.pks_query_lookup.specs.Fives.{five_of}
use Rattle.pks_query.specs.Steps.{outcome_of}
use Rattle.pks_terms.specs.ChoiceViews.{choice_of}
use Rattle.pks_search.proofs.Readiness.{chosen_action}
use Rattle.pks_search.proofs.Children.{acted}
use Rattle.pks_tests_steps.proofs.walks.act.Goals as goal

pub progress-requires-clause-moment : goal.progress-requires-clause-moment
progress-requires-clause-moment c = subst (IsMomentOf (problem_of c.args.p.now).signature) (sym c.last.ensures) (last_of_it (problem_of c.args.p.now) c.requires.valid.says c.args.h.now c.requires.room.moments)

pub progress-requires-clause-choice : goal.progress-requires-clause-choice
progress-requires-clause-choice c =
    let p = problem_of c.args.p.now in
    let d = last_moment c.args.h.now in
    let i = instance_of c.in-Act.step in
    let acts : IsIn (Act i) (choices p d) = subst (λ x. IsIn (choice_of x) (choices p d)) c.in-Act.is c.in_ok-step.ensures in
    subst (λ e. IsIn i (instances p e)) (sym c.last.ensures) (chosen_action p d i acts)

pub returns-clause-moments : goal.returns-clause-moments
returns-clause-moments c =
    let p = problem_of c.args.p.now in
    let i = instance_of c.in-Act.step in
    let d = last_moment c.args.h.now in
    let acts : IsIn (Act i) (choices p d) = subst (λ x. IsIn (choice_of x) (choices p d)) c.in-Act.is c.in_ok-step.ensures in
    let choice = chosen_action p d i acts in
    let progress = acted p c.args.h.now i (five_of c.last.result.now) (five_of c.in-Next.d) (outcome_of c.in_ok-d.field-0) c.last.ensures (ap outcome_of c.in-Next.is) c.in_ok-d.ensures.progress in
    let e = five_of c.in-Next.d in
    let moments = acts_of p c.requires.valid.says c.args.h.now (pushed c.args.h.now i e) i c.requires.room.moments choice (record { outcome = Next e; progress = progress; gives = refl }) in
    subst (AreMomentsOf p) (sym c.in_ok-longer.ensures) moments
