use Rattle.std.proofs.Common.{map, ap, ◌∙◌}
use Rattle.pks_terms.specs.Views.{object_of}
use Rattle.pks_query_lookup.specs.Tables.{objects_at}
use Rattle.pks_query_lookup.proofs.TableLaws.{at_key}
use Rattle.pks_query_lookup.proofs.normals.Normals.values.Goals as goal

pub returns-in-Some : goal.returns-in-Some
returns-in-Some c =
    let ds = map object_of c.args.at.now in
    rw (← c.self.view_is) (c.objects_at.ensures ∙ ap (λ t. objects_at t c.in-Some.key) c.deref-table.ensures ∙ at_key c.self.inside.table.value c.in-Some.key c.args.fun.0 ds c.in-Some.ensures.place ∙ c.self.invariant.gives c.args.fun.0 ds)
