use Rattle.std.proofs.Common.{◌≡◌, ap, subst}
use Rattle.pks_terms.specs.Sets.{IsIn}
use Rattle.pks_terms.specs.Signatures.{range_of}
use Rattle.pks_terms.specs.Branching.{choices, left, CasesOn}
use Rattle.pks_terms.specs.Settling.{last_moment}
use Rattle.pks_terms.specs.Views.{term_of, problem_of}
use Rattle.pks_terms.proofs.ListLaws.{each_in}
use Rattle.pks_terms.specs.ChoiceViews.{choice_of}
use Rattle.pks_search.proofs.Readiness.{chosen_cases, left_in_range}
use Rattle.pks_tests_steps.proofs.walks.take_case.Goals as goal

pub take_side-requires-clause-member : goal.take_side-requires-clause-member
take_side-requires-clause-member c =
    let p = problem_of c.args.p.now in
    let d = last_moment c.args.h.now in
    let x = term_of c.in-Cases.term in
    let is_cases : choice_of c.in_ok-c.c ≡ CasesOn x = ap choice_of c.in-Cases.is in
    (chosen_cases p d x (subst (λ y. IsIn y (choices p d)) is_cases c.in_ok-c.ensures)).0

pub take_side-requires-clause-side : goal.take_side-requires-clause-side
take_side-requires-clause-side c =
    let s = (problem_of c.args.p.now).signature in
    let d = last_moment c.args.h.now in
    let x = term_of c.in-Cases.term in
    let object = c.in_ok-object.object in
    each_in (λ e. IsIn e (range_of s x)) (left s d x) object.0 (left_in_range s d x) c.in_ok-object.ensures
