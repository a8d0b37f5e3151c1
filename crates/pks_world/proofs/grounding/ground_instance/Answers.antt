use Rattle.std.proofs.Common.{◌≡◌, length, rules}
use Rattle.pks_terms.specs.declared.term.Inner.TheVariants as inner_is
use Rattle.pks_world.specs.Contents.{world_of}
use Rattle.pks_world.proofs.Arguments.{first_values}
use Rattle.pks_world.proofs.grounding.ground_instance.Goals as goal

pub returns-clause-says : goal.returns-clause-says
returns-clause-says c =
    let i = c.args.i.now in
    let long : length i.args ≡ 4 = search rules in
    let values = first_values (world_of c.args.w.now) i.n i.args (inner_is.Obj (record { 0 = 0 })) c.argument_value.result c.argument_value-2.result c.argument_value-3.result c.argument_value-4.result long c.argument_value.ensures c.argument_value-2.ensures c.argument_value-3.ensures c.argument_value-4.ensures in
    λ k. record { action = i.act.0; arguments = values k }
