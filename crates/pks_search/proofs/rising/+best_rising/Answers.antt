use Rattle.std.proofs.Common.{◌≤◌, Some, option_map, subst, arith}
use Rattle.pks_terms.specs.Settling.{At}
use Rattle.pks_terms.specs.Trees.{cost, IsBestAt}
use Rattle.pks_terms.specs.Views.{problem_of}
use Rattle.pks_plan.specs.TreeViews.{tree_of}
use Rattle.pks_search.specs.Limits.{IsBestWithin}
use Rattle.pks_search_nogoods.proofs.Costs.{costs_at_most}
use Rattle.pks_search.proofs.Deepening.{limit_best, none_deeper}
use Rattle.pks_search.proofs.rising.+best_rising.Goals as goal

pub returns-then-n-full : goal.returns-then-n-full
returns-then-n-full t c =
    let p = problem_of c.args.spot.now.problem.now in
    let x = At c.args.spot.now.history.now in
    subst (λ n. IsBestAt p x n (option_map tree_of c.in_ok-found.found)) c.if-n-full.true (limit_best p x c.args.n c.args.full c.args.limit (option_map tree_of c.in_ok-found.found) c.requires.within c.requires.limit c.in_ok-found.ensures.best)

pub cost-own-requires-clause-costs : goal.cost-own-requires-clause-costs
cost-own-requires-clause-costs t c = costs_at_most (problem_of c.args.spot.now.problem.now) c.requires.spot.ready.valid.says

pub returns-then-own-n : goal.returns-then-own-n
returns-then-own-n t c =
    let p = problem_of c.args.spot.now.problem.now in
    let x = At c.args.spot.now.history.now in
    let tree = tree_of c.in-Some.t in
    let best : IsBestWithin p x c.args.n c.args.limit (Some tree) = subst (λ o. IsBestWithin p x c.args.n c.args.limit (option_map tree_of o)) c.in-Some.is c.in_ok-found.ensures.best in
    let cheap : cost p tree ≤ c.args.n = omega (arith, c.if-own-n.true, c.cost-own.ensures) in
    none_deeper p x c.requires.spot.ready.valid.says c.args.n c.args.full tree c.requires.within cheap (limit_best p x c.args.n c.args.full c.args.limit (Some tree) c.requires.within c.requires.limit best)
