use Rattle.std.proofs.Common.{drop, map}
use Rattle.pks_terms.specs.Sets.{Each}
use Rattle.pks_terms.specs.Views.{term_of}
use Rattle.pks_laws_symmetry.specs.Fixed.{IsFixedTerm}
use Rattle.pks_search_symmetry.specs.Renaming.{image_by}
use Rattle.pks_search_symmetry.proofs.fixed.Look.terms.Given as goal

abbrev pub invariant-loop-t : goal.invariant-loop-t
invariant-loop-t l = Each (IsFixedTerm (image_by l.self.to.now) l.self.parameters) (map term_of (drop l.t-index l.ts)) → Each (IsFixedTerm (image_by l.self.to.now) l.self.parameters) (map term_of l.ts)
