use Rattle.std.proofs.Common.{None, option_map, subst}
use Rattle.pks_terms.specs.Trees.{IsBest}
use Rattle.pks_terms.specs.Views.{problem_of}
use Rattle.pks_plan.specs.TreeViews.{tree_of}
use Rattle.pks_run_answer.proofs.plans.look_for_plan.Goals as goal

pub returns-in_ok-none_text-in-None : goal.returns-in_ok-none_text-in-None
returns-in_ok-none_text-in-None c =
    let p = problem_of c.args.p.now in
    let best : IsBest p c.args.depth None = subst (λ o. IsBest p c.args.depth (option_map tree_of o)) c.in-None.is c.in_ok-tree.ensures.best in
    (best, c.in_ok-none_text-in-None.ensures)
