use Rattle.std.proofs.Common.{◌≡◌, drop, fold}
use Rattle.std.specs.List.{flat_map}
use Rattle.pks_terms.specs.Shapes.{effect_shapes}
use Rattle.pks_terms.specs.Views.{schema_of}
use Rattle.pks_justify.specs.Cases.{adds_of}
use Rattle.pks_justify.specs.Effects.{effects_of}
use Rattle.pks_justify.specs.Places.{AssignToPlaces}
use Rattle.pks_derive.specs.Offering.{with_offered}
use Rattle.pks_derive.proofs.offering.offer_effects.Given as goal

abbrev pub invariant-loop-e : goal.invariant-loop-e
invariant-loop-e l = (AssignToPlaces (drop l.e-index l.effects)) × (fold (with_offered (schema_of l.schema)) (adds_of l.to.items) (flat_map effect_shapes (effects_of (drop l.e-index l.effects))) ≡ fold (with_offered (schema_of l.schema)) (adds_of l.fn.to.items) (flat_map effect_shapes (effects_of l.effects)))
