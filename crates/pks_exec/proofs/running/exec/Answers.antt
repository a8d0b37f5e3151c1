use Rattle.std.proofs.Common.{◌≡◌, map, rules, sym, subst}
use Rattle.pks_terms.specs.Knowledge.{AtGoal, run_of}
use Rattle.pks_terms.specs.Views.{problem_of}
use Rattle.pks_world.specs.Contents.{world_of}
use Rattle.pks_plan.specs.TreeViews.{tree_of}
use Rattle.pks_exec.specs.Runs.{event_of, EndsWith}
use Rattle.pks_exec.proofs.Ending.{plan_ends}
use Rattle.pks_exec.proofs.running.exec.Goals as goal

pub returns-clause-goal : goal.returns-clause-goal
returns-clause-goal c = λ valid none plan compatible.
    let p = problem_of c.args.p.now in
    let t = tree_of c.args.t.now in
    let w = world_of c.args.w.now in
    let run : map event_of c.of.result ≡ run_of p t w = search (rules, c.in_ok-run_tree.ensures valid) in
    subst (EndsWith AtGoal) (sym run) (plan_ends p t w valid none plan compatible)
