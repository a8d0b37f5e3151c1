use Rattle.std.proofs.Common.{arith}
use Rattle.pks_terms.specs.Views.{problem_of}
use Rattle.pks_plan.specs.TreeViews.{tree_of}
use Rattle.pks_plan.proofs.Costs.{cost_most}
use Rattle.pks_plan.proofs.order.cost.Goals as goal

pub overflow_cast-result : goal.overflow_cast-result
overflow_cast-result c = omega (arith, cost_most (problem_of c.args.p.now) c.requires.costs (tree_of c.args.t.now), c.requires.depth, c.total.ensures.cost)
