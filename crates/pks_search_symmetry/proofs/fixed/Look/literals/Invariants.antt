use Rattle.std.proofs.Common.{drop, map}
use Rattle.pks_terms.specs.Views.{literal_of}
use Rattle.pks_laws_symmetry.specs.Fixed.{IsFixedConj}
use Rattle.pks_search_symmetry.specs.Renaming.{image_by}
use Rattle.pks_search_symmetry.proofs.fixed.Look.literals.Given as goal

abbrev pub invariant-loop-l : goal.invariant-loop-l
invariant-loop-l l = IsFixedConj (image_by l.self.to.now) l.self.parameters (map literal_of (drop l.l-index l.ls)) → IsFixedConj (image_by l.self.to.now) l.self.parameters (map literal_of l.ls)
