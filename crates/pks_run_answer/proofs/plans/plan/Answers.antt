use Rattle.std.proofs.Common.{◌≡◌, subst, arith}
use Rattle.pks_terms.specs.Views.{problem_of}
use Rattle.pks_plan.specs.TreeViews.{tree_of}
use Rattle.pks_run_answer.specs.Replies.{IsPlanned}
use Rattle.pks_run_answer.proofs.Planning.{best_depth, can_be_made}
use Rattle.pks_run_answer.proofs.plans.plan.Goals as goal

pub product_text-requires-clause-derived : goal.product_text-requires-clause-derived
product_text-requires-clause-derived c =
    let best = subst (IsPlanned (problem_of c.args.p.now) c.args.depth) c.in-Plan.is c.in_ok-found.ensures in
    best.0.0

pub product_text-requires-clause-depth : goal.product_text-requires-clause-depth
product_text-requires-clause-depth c =
    let t = tree_of c.in-Plan.tree in
    let deep = best_depth (problem_of c.args.p.now) c.args.depth t (subst (IsPlanned (problem_of c.args.p.now) c.args.depth) c.in-Plan.is c.in_ok-found.ensures) in
    omega (arith, deep, c.requires.depth)

pub product_text-requires-clause-can : goal.product_text-requires-clause-can
product_text-requires-clause-can c =
    can_be_made c.args.product (problem_of c.args.p.now) c.args.depth (tree_of c.in-Plan.tree)
    (subst (IsPlanned (problem_of c.args.p.now) c.args.depth) c.in-Plan.is c.in_ok-found.ensures) c.requires.can

pub returns-in_ok-text-in-Plan : goal.returns-in_ok-text-in-Plan
returns-in_ok-text-in-Plan c =
    let best = subst (IsPlanned (problem_of c.args.p.now) c.args.depth) c.in-Plan.is c.in_ok-found.ensures in
    (tree_of c.in-Plan.tree, best, c.in_ok-text-in-Plan.ensures)

pub returns-in-NoPlan : goal.returns-in-NoPlan
returns-in-NoPlan c = subst (IsPlanned (problem_of c.args.p.now) c.args.depth) c.in-NoPlan.is c.in_ok-found.ensures
