use Rattle.std.proofs.Common.{map, [], ◌∷◌, ◌++◌, ap, ◌∙◌}
use Rattle.std.proofs.lemmas.List.{map_push}
use Rattle.pks_terms.specs.Views.{object_of}
use Rattle.pks_query_lookup.specs.Tables.{found_objects}
use Rattle.pks_query_lookup.proofs.TableLaws.{put_one}
use Rattle.pks_query_lookup.proofs.table.put.Goals as goal

pub returns : goal.returns
returns c =
    put_one c.args.table.now c.remove-found.new.self c.insert.new.self c.args.key c.args.d c.push.new.self c.remove-found.ensures.updates.0 c.in_ok-insert.ensures.updates.0
    (ap (map object_of) c.in_ok-push.ensures.items ∙ map_push object_of c.or_none-objects.result.items c.args.d
    ∙ ap (λ ds. ds ++ c.args.d.0 ∷ []) (c.or_none-objects.ensures ∙ ap found_objects c.remove-found.ensures.value))
