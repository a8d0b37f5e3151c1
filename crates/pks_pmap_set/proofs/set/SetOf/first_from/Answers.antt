use Rattle.std.proofs.Common.{ap, ◌∙◌}
use Rattle.std.specs.Option.{option_map}
use Rattle.pks_pmap_set.specs.Members.{first_at_least}
use Rattle.pks_pmap_set.proofs.Keys.{first_by_keys}
use Rattle.pks_pmap_set.proofs.set.SetOf.first_from.Goals as goal

pub returns-in_err-first : goal.returns-in_err-first
returns-in_err-first g c =
    ap (option_map (λ x. x.now)) c.from_residual.ensures ∙ ap (option_map (λ e. e.0)) c.in_err-first.ensures
    ∙ first_by_keys g.T.Ord.cmp c.args.item.now c.self.inside.entries ∙ ap (first_at_least g.T.Ord.cmp c.args.item.now) c.self.view_is

pub returns : goal.returns
returns g c =
    ap (option_map (λ e. e.0)) c.in_ok-first.ensures ∙ first_by_keys g.T.Ord.cmp c.args.item.now c.self.inside.entries ∙ ap (first_at_least g.T.Ord.cmp c.args.item.now) c.self.view_is
