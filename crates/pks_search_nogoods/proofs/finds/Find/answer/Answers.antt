use Rattle.std.proofs.Common.{◌≡◌, ◌≤◌, ◌<◌, min, Some, None, true, rules, sym, subst, arith}
use Rattle.pks_terms.specs.Trees.{depth, cost}
use Rattle.pks_plan.specs.TreeViews.{tree_of}
use Rattle.pks_search_nogoods.specs.Finds.{IsAnswer}
use Rattle.pks_search_nogoods.proofs.Finding.{found_serves, found_rules_out}
use Rattle.pks_search_nogoods.proofs.finds.Find.answer.Goals as goal

pub returns-then-asked-self : goal.returns-then-asked-self
returns-then-asked-self c = λ p v right.
    let self = c.args.self.now in
    let asked = c.args.asked.now in
    let yes : c.same.result ≡ true = search rules in
    let same : asked.at.history.now ≡ self.history = c.same.ensures.0 yes in
    let costs = right.costs in
    let bound : min asked.n (min (cost p (tree_of self.tree)) asked.limit) ≤ self.depth = omega (arith, c.if-self-min.false, c.min.ensures, c.min-2.ensures, costs) in
    let dear : asked.limit < cost p (tree_of self.tree) = omega (arith, c.if-asked-self.true, costs) in
    subst (λ h. IsAnswer p h asked.n asked.limit None) (sym same) (found_rules_out p v self.history (tree_of self.tree) self.depth right.limit right.found asked.n asked.limit bound dear)

pub returns-in-Ok : goal.returns-in-Ok
returns-in-Ok c = λ p v right.
    let self = c.args.self.now in
    let asked = c.args.asked.now in
    let yes : c.same.result ≡ true = search rules in
    let same : asked.at.history.now ≡ self.history = c.same.ensures.0 yes in
    let costs = right.costs in
    let deep = right.deep in
    let bound : min asked.n (min (cost p (tree_of self.tree)) asked.limit) ≤ self.depth = omega (arith, c.if-self-min.false, c.min.ensures, c.min-2.ensures, costs) in
    let shallow : depth (tree_of self.tree) ≤ asked.n = omega (arith, c.if-asked-self-2.false, deep) in
    let cheap : cost p (tree_of self.tree) ≤ asked.limit = omega (arith, c.if-asked-self.false, costs) in
    subst (λ t. IsAnswer p asked.at.history.now asked.n asked.limit (Some t)) (sym c.in-Ok.ensures)
    (subst (λ h. IsAnswer p h asked.n asked.limit (Some (tree_of self.tree))) (sym same) (found_serves p v self.history (tree_of self.tree) self.depth right.limit right.found asked.n asked.limit bound shallow cheap))
