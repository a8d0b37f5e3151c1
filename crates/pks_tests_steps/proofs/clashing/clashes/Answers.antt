use Rattle.std.proofs.Common.{◌≡◌, sym, subst}
use Rattle.pks_terms.specs.Sets.{IsIn}
use Rattle.pks_terms.specs.Branching.{choices, instances, Act}
use Rattle.pks_terms.specs.Settling.{last_moment}
use Rattle.pks_terms.specs.Views.{instance_of, problem_of}
use Rattle.pks_terms.specs.Moments.{IsMomentOf}
use Rattle.pks_laws.proofs.SearchStates.{last_of_it}
use Rattle.pks_terms.specs.ChoiceViews.{choice_of}
use Rattle.pks_search.proofs.Readiness.{chosen_action}
use Rattle.pks_tests_steps.proofs.clashing.clashes.Goals as goal

pub progress-requires-clause-moment : goal.progress-requires-clause-moment
progress-requires-clause-moment c = subst (IsMomentOf (problem_of c.args.p.now).signature) (sym c.last.ensures) (last_of_it (problem_of c.args.p.now) c.requires.valid.says c.args.h.now c.requires.moments)

pub progress-requires-clause-choice : goal.progress-requires-clause-choice
progress-requires-clause-choice c =
    let p = problem_of c.args.p.now in
    let d = last_moment c.args.h.now in
    let i = instance_of c.in-Act.step in
    let acts : IsIn (Act i) (choices p d) = subst (λ x. IsIn (choice_of x) (choices p d)) c.in-Act.is c.in_ok-step.ensures in
    subst (λ e. IsIn i (instances p e)) (sym c.last.ensures) (chosen_action p d i acts)
