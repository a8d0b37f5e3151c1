use Rattle.std.proofs.Common.{ap, ◌∙◌}
use Rattle.pks_terms.specs.Worlds.{value_of}
use Rattle.pks_terms.specs.Views.{inner_of}
use Rattle.pks_world.specs.Contents.{world_of}
use Rattle.pks_laws.proofs.Changing.{value_of-term_of}
use Rattle.pks_world.proofs.grounding.argument_value.Goals as goal

pub returns : goal.returns
returns c =
    c.value.ensures ∙ (ap (value_of (world_of c.args.w.now)) c.as_term.ensures.says ∙ value_of-term_of (world_of c.args.w.now) (inner_of c.args.t.now))
