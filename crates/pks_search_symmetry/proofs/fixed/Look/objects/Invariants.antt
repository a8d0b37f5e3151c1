use Rattle.std.proofs.Common.{◌≡◌, drop, map}
use Rattle.pks_terms.specs.Sets.{Each}
use Rattle.pks_terms.specs.Views.{object_of}
use Rattle.pks_search_symmetry.specs.Renaming.{image_by}
use Rattle.pks_search_symmetry.proofs.fixed.Look.objects.Given as goal

abbrev pub invariant-loop-d : goal.invariant-loop-d
invariant-loop-d l = Each (λ d. image_by l.self.to.now d ≡ d) (map object_of (drop l.d-index l.ds)) → Each (λ d. image_by l.self.to.now d ≡ d) (map object_of l.ds)
