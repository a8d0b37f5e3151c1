use Rattle.std.proofs.Common.{ℕ, ◌<◌}
use Rattle.pks_terms.specs.Views.{types_of}
use Rattle.pks_search_symmetry.specs.Renaming.{image_by, IsTakenBack}
use Rattle.pks_search_symmetry.proofs.alike.takes_back.Given as goal

abbrev pub invariant-loop-place : goal.invariant-loop-place
invariant-loop-place l = (d : ℕ) → d < l.place → IsTakenBack (types_of l.types) (image_by l.to) (image_by l.back) d
