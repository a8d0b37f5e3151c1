use Rattle.std.proofs.Common.{◌≡◌, None, sym, ◌∙◌, subst, IfOk}
use Rattle.pks_pmap.specs.Entries.{get, remove}
use Rattle.pks_pmap.proofs.Order.{remove_missing, none_where}
use Rattle.pks_pmap.proofs.map.PMap.remove.Goals as goal

pub returns-then-is_none-clause-entries : goal.returns-then-is_none-clause-entries
returns-then-is_none-clause-entries g c =
    let none : get g.K.Ord.cmp c.args.key.now c.self.inside.tree.0 ≡ None = sym c.get.ensures ∙ none_where (λ v. v.now) c.get.result c.if-is_none.ensures in
    let same : remove g.K.Ord.cmp c.args.key.now c.args.self.now ≡ c.args.self.now = rw (← c.self.view_is) (remove_missing g.K.Ord.cmp g.met.K.Ord.total c.args.key.now _ none) in
    subst (λ z. IfOk c.share.result (λ map. map ≡ z)) (sym same) c.share.ensures
