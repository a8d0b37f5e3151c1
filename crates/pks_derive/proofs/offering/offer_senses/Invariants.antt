use Rattle.std.proofs.Common.{◌≡◌, drop, fold}
use Rattle.std.specs.List.{flat_map}
use Rattle.pks_terms.specs.Shapes.{sense_shapes}
use Rattle.pks_terms.specs.Views.{schema_of}
use Rattle.pks_justify.specs.Cases.{adds_of}
use Rattle.pks_justify.specs.Effects.{senses_of}
use Rattle.pks_derive.specs.Offering.{with_offered}
use Rattle.pks_derive.proofs.offering.offer_senses.Given as goal

abbrev pub invariant-loop-sense : goal.invariant-loop-sense
invariant-loop-sense l = fold (with_offered (schema_of l.schema)) (adds_of l.to.items) (flat_map sense_shapes (senses_of (drop l.sense-index l.senses))) ≡ fold (with_offered (schema_of l.schema)) (adds_of l.fn.to.items) (flat_map sense_shapes (senses_of l.senses))
