use Rattle.std.proofs.Common.{[], ◌∷◌, ◌++◌, ap, ◌∙◌}
use Rattle.pks_query_uses.specs.Indexes.{found_items}
use Rattle.pks_query_uses.proofs.IndexLaws.{put_one}
use Rattle.pks_query_uses.proofs.index.put.Goals as goal

pub returns : goal.returns
returns g c =
    put_one c.args.index.now c.remove-found.new.self c.insert.new.self c.args.t c.args.x c.push.new.self c.remove-found.ensures.updates.0 c.in_ok-insert.ensures.updates.0
    (c.in_ok-push.ensures.items ∙ ap (λ xs. xs ++ c.args.x ∷ []) (c.or_none-items.ensures ∙ ap found_items c.remove-found.ensures.value))
