use Rattle.std.proofs.Common.{◌≡◌, map, ap, ◌∙◌}
use Rattle.pks_terms.specs.Branching.{choices}
use Rattle.pks_terms.specs.Settling.{last_moment}
use Rattle.pks_terms.specs.Views.{problem_of}
use Rattle.pks_terms.specs.ChoiceViews.{choice_of}
use Rattle.pks_tests_steps.proofs.Walking.{chosen}
use Rattle.pks_tests_steps.proofs.walks.choice_of_line.Goals as goal

pub returns : goal.returns
returns c =
    let p = problem_of c.args.p.now in
    let d = last_moment c.args.h.now in
    let all : map choice_of c.as_slice.result.now ≡ choices p d = ap (map choice_of) c.as_slice.ensures ∙ (c.in_ok-all.ensures.all ∙ ap (choices p) c.last.ensures) in
    chosen choice_of c.as_slice.result.now c.in_ok-c.c (choices p d) all c.in_ok-c.ensures
