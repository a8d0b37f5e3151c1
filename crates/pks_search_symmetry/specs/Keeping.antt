-- What is kept of a problem's renamings.
use Rattle.std.specs.Prelude.{true, ◌≡◌, []}
use Rattle.pks_terms.specs.Problems.{Problem}
use Rattle.pks_laws_symmetry.specs.Fixed.{IsSymmetry}
use Rattle.pks_search_symmetry.specs.Renaming.{image_by}
use Rattle.pks_search_symmetry.specs.declared.alike.Alike.{Alike}

-- where the mark says so, the renaming that moves nothing leaves the problem as it is
abbrev pub IsOfProblem : Problem → Alike → Type 0
IsOfProblem p a = a.whole ≡ true → IsSymmetry p (image_by []) (image_by [])
