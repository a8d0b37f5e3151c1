use Rattle.std.proofs.Common.{sym, ap, ◌∙◌}
use Rattle.pks_terms.specs.Trees.{root_kind, cost}
use Rattle.pks_terms.specs.Views.{problem_of}
use Rattle.pks_plan.specs.TreeViews.{tree_of}
use Rattle.pks_plan.proofs.Variants.{only_act, only_branch, only_cases}
use Rattle.pks_plan.proofs.Roots.{same_kind, unequal_roots}
use Rattle.pks_plan.proofs.order.+betters.Goals as goal

pub better-returns-in_default : goal.better-returns-in_default
better-returns-in_default t c =
    c.root_cmp.ensures ∙ sym (unequal_roots (cost (problem_of c.args.p.now)) (tree_of c.args.a.now) (tree_of c.args.b.now) (λ e. c.in_default.not-Equal (c.root_cmp.ensures ∙ e)))

pub children_cmp-returns-in_default : goal.children_cmp-returns-in_default
children_cmp-returns-in_default t c =
    let a = c.args.a.now in
    let b = c.args.b.now in
    let kind = sym (ap (λ x. root_kind (tree_of x)) c.in_default.is-0) ∙ same_kind (cost (problem_of c.args.p.now)) (tree_of a) (tree_of b) c.requires.roots in
    absurd (only_act b kind c.in_default.not-Act-1)

pub children_cmp-returns-in_default-2 : goal.children_cmp-returns-in_default-2
children_cmp-returns-in_default-2 t c =
    let a = c.args.a.now in
    let b = c.args.b.now in
    let kind = sym (ap (λ x. root_kind (tree_of x)) c.in_default.is-0) ∙ same_kind (cost (problem_of c.args.p.now)) (tree_of a) (tree_of b) c.requires.roots in
    absurd (only_branch b kind c.in_default.not-Branch-1)

pub children_cmp-returns-in_default-3 : goal.children_cmp-returns-in_default-3
children_cmp-returns-in_default-3 t c =
    let a = c.args.a.now in
    let b = c.args.b.now in
    let kind = sym (ap (λ x. root_kind (tree_of x)) c.in_default.is-0) ∙ same_kind (cost (problem_of c.args.p.now)) (tree_of a) (tree_of b) c.requires.roots in
    absurd (only_cases b kind c.in_default.not-Cases-1)
