use Rattle.std.proofs.Common.{drop, map}
use Rattle.pks_terms.specs.Sets.{Each}
use Rattle.pks_terms.specs.Views.{add_of}
use Rattle.pks_laws_symmetry.specs.Fixed.{IsFixedItem, AreFixedQueries}
use Rattle.pks_search_symmetry.specs.Renaming.{image_by}
use Rattle.pks_search_symmetry.proofs.fixed.Look.adds.Given as goal

abbrev pub invariant-loop-a : goal.invariant-loop-a
invariant-loop-a l = Each (λ a. AreFixedQueries (image_by l.self.to.now) l.self.parameters a.given × IsFixedItem (image_by l.self.to.now) l.self.parameters a.item) (map add_of (drop l.a-index l.all)) → Each (λ a. AreFixedQueries (image_by l.self.to.now) l.self.parameters a.given × IsFixedItem (image_by l.self.to.now) l.self.parameters a.item) (map add_of l.all)
