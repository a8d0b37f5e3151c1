use Rattle.std.proofs.Common.{true, false, sym, ap, ◌∙◌}
use Rattle.pks_terms.specs.Orders.{number_of, arguments_of}
use Rattle.pks_terms.specs.Syntax.{Atom}
use Rattle.pks_terms.specs.declared.schema.Target as target
use Rattle.pks_terms.specs.Views.{term_of, atom_of, target_of}
use Rattle.pks_world.specs.Contents.{world_of, with_truth, with_value}
use Rattle.pks_world.specs.Applied.{written_to}
use Rattle.pks_world.proofs.Writing.{set_written, unset_written, assign_written}
use Rattle.pks_world.proofs.worlds.World.write.Goals as goal

pub returns-in_ok-put_atom-in-Set-clause-world : goal.returns-in_ok-put_atom-in-Set-clause-world
returns-in_ok-put_atom-in-Set-clause-world c =
    let w = world_of c.args.old.now in let v = world_of c.args.self.now in
    λ n. c.in_ok-put_atom-in-Set.ensures.ok ∙ ap (λ (a : Atom). with_truth v a true) c.with_values.ensures.says ∙ set_written w v (atom_of c.in-Set.a) ∙ ap (λ (t : target.Target). written_to w (target_of t) v) (sym c.in-Set.is)

pub returns-in-Unset-clause-world : goal.returns-in-Unset-clause-world
returns-in-Unset-clause-world c =
    let w = world_of c.args.old.now in let v = world_of c.args.self.now in
    λ n. c.remove_atom.ensures.world ∙ ap (λ (a : Atom). with_truth v a false) c.with_values-in-Unset.ensures.says ∙ unset_written w v (atom_of c.in-Unset.a) ∙ ap (λ (t : target.Target). written_to w (target_of t) v) (sym c.in-Unset.is)

pub returns-in_ok-assign-in-Assign-clause-world : goal.returns-in_ok-assign-in-Assign-clause-world
returns-in_ok-assign-in-Assign-clause-world c =
    let w = world_of c.args.old.now in let v = world_of c.args.self.now in
    λ n. c.in_ok-assign-in-Assign.ensures.world ∙ (λ i. with_value v (c.in-Some.ensures.place i) (c.value.ensures i)) ∙ assign_written w v (number_of (term_of c.in-Assign.place)) (arguments_of (term_of c.in-Assign.place)) (term_of c.in-Assign.value) ∙ ap (λ (t : target.Target). written_to w (target_of t) v) (sym c.in-Assign.is)
