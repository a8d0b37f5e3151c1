use Rattle.std.proofs.Common.{map, ap, sym, ◌∙◌}
use Rattle.pks_terms.specs.Views.{object_of}
use Rattle.pks_world.proofs.Telling.{same_world}
use Rattle.pks_world.proofs.worlds.World.same.Goals as goal

pub returns : goal.returns
returns c = λ yes.
    same_world c.args.self.now c.args.other.now (c.same_atoms.ensures c.if-not-same_atoms.false) (c.same_values.ensures c.if-not-same_values.false)
    (sym (ap (map object_of) c.as_slice.ensures.value) ∙ c.same_objects.ensures yes ∙ ap (map object_of) c.as_slice-2.ensures.value)
