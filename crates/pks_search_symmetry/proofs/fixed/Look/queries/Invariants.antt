use Rattle.std.proofs.Common.{drop, map}
use Rattle.pks_terms.specs.Views.{query_of}
use Rattle.pks_laws_symmetry.specs.Fixed.{AreFixedQueries}
use Rattle.pks_search_symmetry.specs.Renaming.{image_by}
use Rattle.pks_search_symmetry.proofs.fixed.Look.queries.Given as goal

abbrev pub invariant-loop-q : goal.invariant-loop-q
invariant-loop-q l = AreFixedQueries (image_by l.self.to.now) l.self.parameters (map query_of (drop l.q-index l.qs)) → AreFixedQueries (image_by l.self.to.now) l.self.parameters (map query_of l.qs)
