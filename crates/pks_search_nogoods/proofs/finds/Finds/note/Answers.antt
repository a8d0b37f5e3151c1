use Rattle.std.proofs.Common.{◌≡◌, nat_eq, sym, ap, ◌∙◌, subst}
use Rattle.lru.specs.LruCache.{lru_cache, put_entries}
use Rattle.pks_terms.specs.Trees.{depth, cost}
use Rattle.pks_terms.specs.Views.{problem_of}
use Rattle.pks_plan.specs.TreeViews.{tree_of}
use Rattle.pks_search_nogoods.specs.Finds.{IsFound}
use Rattle.pks_search_nogoods.specs.Noted.{IsRightFind}
use Rattle.pks_search_nogoods.specs.declared.finds.Find.{Find}
use Rattle.pks_search_nogoods.proofs.Serving.{either}
use Rattle.pks_search_nogoods.proofs.Noting.{found_put}
use Rattle.pks_search_nogoods.proofs.finds.Finds.note.Goals as goal

pub returns-in-Ok-Ok : goal.returns-in-Ok-Ok
returns-in-Ok-Ok c = λ found right.
    let p = problem_of c.args.p.now in
    let asked = c.args.asked.now in
    let table = c.args.self.now.table in
    let history_is : c.in-Ok-Ok.history ≡ asked.at.history.now = c.in-Ok-Ok.ensures in
    let tree_is : tree_of c.in-Ok-Ok.tree ≡ tree_of c.args.t.now = c.in-Ok-Ok.ensures' in
    let new : Find = record { history = c.in-Ok-Ok.history; tree = c.in-Ok-Ok.tree; own_cost = c.cost.result; own_depth = c.depth.result; depth = asked.n } in
    let there : IsFound p asked.at.history.now asked.n asked.limit (tree_of c.in-Ok-Ok.tree) = subst (λ t. IsFound p asked.at.history.now asked.n asked.limit t) (sym tree_is) found in
    let is : IsRightFind p new = record {
      limit = asked.limit;
      found = subst (λ h. IsFound p h asked.n asked.limit (tree_of c.in-Ok-Ok.tree)) (sym history_is) there;
      costs = c.cost.ensures ∙ ap (cost p) (sym tree_is);
      deep = c.depth.ensures ∙ ap depth (sym tree_is);
    } in
    found_put p table c.own_mark.result new right is c.push.new.self
    (either c.push.result (c.push.new.self ≡ lru_cache (put_entries nat_eq table c.own_mark.result new) table.cap) (c.push.new.self ≡ table) c.push.ensures.entries c.push.ensures.err)
