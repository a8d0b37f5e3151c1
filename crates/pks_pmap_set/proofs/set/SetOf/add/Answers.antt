use Rattle.std.proofs.Common.{◌≡◌, false, sym, ap, ◌∙◌}
use Rattle.pks_terms.specs.Sets.{insert_in}
use Rattle.pks_pmap_set.specs.Members.{is_member, keys}
use Rattle.pks_pmap_set.proofs.Keys.{keys_insert, insert_in-present}
use Rattle.pks_pmap_set.proofs.set.SetOf.add.Goals as goal

pub returns-then-has : goal.returns-then-has
returns-then-has g c =
    let e = insert_in-present g.T.Ord.cmp g.met.T.Ord.total c.args.item c.args.self.now c.len-ordered.ensures.ordered (sym c.has.ensures ∙ c.if-has.true) in
    rw e c.share.ensures

pub returns : goal.returns
returns g c =
    let new : is_member g.T.Ord.cmp c.args.item (keys c.self.inside.entries) ≡ false = ap (is_member g.T.Ord.cmp c.args.item) c.self.view_is ∙ sym c.has.ensures ∙ c.if-has.false in
    ap keys c.in_ok-entries.ensures.entries ∙ keys_insert g.T.Ord.cmp (c.args.item, tt) c.self.inside.entries new ∙ ap (insert_in g.T.Ord.cmp c.args.item) c.self.view_is
