use Rattle.std.proofs.Common.{drop, map}
use Rattle.pks_terms.specs.Sets.{Each}
use Rattle.pks_terms.specs.Views.{effect_of}
use Rattle.pks_laws_symmetry.specs.Fixed.{IsFixedEffect}
use Rattle.pks_search_symmetry.specs.Renaming.{image_by}
use Rattle.pks_search_symmetry.proofs.fixed.Look.effects.Given as goal

abbrev pub invariant-loop-e : goal.invariant-loop-e
invariant-loop-e l = Each (IsFixedEffect (image_by l.self.to.now) l.self.parameters) (map effect_of (drop l.e-index l.es)) → Each (IsFixedEffect (image_by l.self.to.now) l.self.parameters) (map effect_of l.es)
