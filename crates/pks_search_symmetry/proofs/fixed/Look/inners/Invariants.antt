use Rattle.std.proofs.Common.{drop, map}
use Rattle.pks_terms.specs.Sets.{Each}
use Rattle.pks_terms.specs.Views.{inner_of}
use Rattle.pks_laws_symmetry.specs.Fixed.{IsFixedInner}
use Rattle.pks_search_symmetry.specs.Renaming.{image_by}
use Rattle.pks_search_symmetry.proofs.fixed.Look.inners.Given as goal

abbrev pub invariant-loop-t : goal.invariant-loop-t
invariant-loop-t l = Each (IsFixedInner (image_by l.self.to.now) l.self.parameters) (map inner_of (drop l.t-index l.ts)) → Each (IsFixedInner (image_by l.self.to.now) l.self.parameters) (map inner_of l.ts)
