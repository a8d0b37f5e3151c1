use Rattle.std.proofs.Common.{sym, ap, ◌∙◌}
use Rattle.std.specs.Option.{is_some}
use Rattle.pks_pmap_set.specs.Members.{is_member}
use Rattle.pks_pmap_set.proofs.Keys.{member_by_get, is_some_map}
use Rattle.pks_pmap_set.proofs.set.SetOf.has.Goals as goal

pub returns : goal.returns
returns g c =
    c.is_some.ensures ∙ sym (is_some_map (λ v. v.now) c.get.result) ∙ ap is_some c.get.ensures ∙ member_by_get g.T.Ord.cmp c.args.item.now c.self.inside.entries ∙ ap (is_member g.T.Ord.cmp c.args.item.now) c.self.view_is
