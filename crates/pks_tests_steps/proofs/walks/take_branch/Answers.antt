use Rattle.std.proofs.Common.{◌≡◌, sym, ap, subst}
use Rattle.pks_terms.specs.Branching.{choices, IsMember, BranchOn}
use Rattle.pks_terms.specs.Sets.{IsIn}
use Rattle.pks_terms.specs.Settling.{last_moment}
use Rattle.pks_terms.specs.Views.{conj_of, problem_of}
use Rattle.pks_terms.specs.ChoiceViews.{choice_of}
use Rattle.pks_search.proofs.Readiness.{chosen_branch}
use Rattle.pks_tests_steps.proofs.walks.take_branch.Goals as goal

pub take_side-requires-clause-member : goal.take_side-requires-clause-member
take_side-requires-clause-member c =
    let p = problem_of c.args.p.now in
    let d = last_moment c.args.h.now in
    let test = conj_of c.in-Branch.field-0 in
    let is_branch : choice_of c.in_ok-c.c ≡ BranchOn test = ap choice_of c.in-Branch.is in
    subst (IsMember d) (sym is_branch) (chosen_branch p d test (subst (λ x. IsIn x (choices p d)) is_branch c.in_ok-c.ensures)).0
