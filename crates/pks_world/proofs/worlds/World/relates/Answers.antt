use Rattle.std.proofs.Common.{map, ap, sym, ◌∙◌}
use Rattle.pks_terms.specs.Worlds.{value_of, relates}
use Rattle.pks_terms.specs.declared.literal.Atom.{Atom}
use Rattle.pks_terms.specs.Views.{relation_of, sides_of}
use Rattle.pks_world.specs.Contents.{world_of, is_listed}
use Rattle.pks_world.proofs.worlds.World.relates.Goals as goal

pub returns-in-Pred : goal.returns-in-Pred
unfolding world_of
returns-in-Pred c =
    let w = world_of c.args.self.now in
    c.contains.ensures ∙ ap (is_listed c.args.self.now.atoms.keys) c.with_values.ensures.says ∙ ap (λ (a : Atom). relates w (relation_of a) (map (value_of w) (sides_of a))) (sym c.in-Pred.is)
