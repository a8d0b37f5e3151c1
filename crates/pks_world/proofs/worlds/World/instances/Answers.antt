use Rattle.std.proofs.Common.{◌++◌, ◌∙◌, List, length, map, filter, ap, sym}
use Rattle.std.proofs.lemmas.List.{length-map}
use Rattle.std.specs.Option.{option_map}
use Rattle.pks_terms.specs.Actions.{instances_of}
use Rattle.pks_terms.specs.declared.literal.PredAtom.{PredAtom}
use Rattle.pks_terms.specs.Views.{object_of, term_of, atom_of, types_of, signature_of}
use Rattle.pks_world.specs.Contents.{ground, world_of}
use Rattle.pks_world.specs.Observed.{grid}
use Rattle.pks_world.proofs.Instances.{found_all, found_none}
use Rattle.pks_world.proofs.worlds.World.instances.Goals as goal

pub returns-then-types-slots-clause-says : goal.returns-then-types-slots-clause-says
returns-then-types-slots-clause-says c =
    let s = signature_of c.args.s.now in let w = world_of c.args.self.now in let p = c.args.x.now.pred.0 in
    ap (map atom_of) c.new-found.ensures.items
    ∙ found_none s w p (types_of c.argument_types-types.result.now) c.slots_in-slots.result.now (λ e. c.if-types-slots.true (sym (length-map c.argument_types-types.result.now _) ∙ e))
    ∙ (λ i. map (ground p) (filter (w.truth p) (instances_of s w (c.argument_types-types.ensures i) (map (option_map term_of) (c.slots_in-slots.ensures.slots i)))))

pub returns-clause-says : goal.returns-clause-says
returns-clause-says c =
    let s = signature_of c.args.s.now in let w = world_of c.args.self.now in let p = c.args.x.now.pred.0 in
    let types = types_of c.argument_types-types.result.now in let slots = c.slots_in-slots.result.now in
    c.in_ok-add_grid.ensures.says
    ∙ ap (λ (xs : List PredAtom). map atom_of xs ++ grid w p (length slots) (map object_of c.deref.result.now) (map object_of c.deref-2.result.now) (map object_of c.deref-3.result.now)) c.new-found.ensures.items
    ∙ found_all s w p types slots (map object_of c.deref.result.now) (map object_of c.deref-2.result.now) (map object_of c.deref-3.result.now) (length-map c.argument_types-types.result.now _ ∙ c.if-types-slots.false) c.slots_in-slots.ensures.few
    (ap (map object_of) c.deref.ensures.value ∙ c.in_ok-firsts.ensures) (ap (map object_of) c.deref-2.ensures.value ∙ c.in_ok-seconds.ensures) (ap (map object_of) c.deref-3.ensures.value ∙ c.in_ok-thirds.ensures)
    ∙ (λ i. map (ground p) (filter (w.truth p) (instances_of s w (c.argument_types-types.ensures i) (map (option_map term_of) (c.slots_in-slots.ensures.slots i)))))
