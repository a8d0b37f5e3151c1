-- Renamings as lists, and histories that are images by a renaming that the problem doesn't see.
use Rattle.std.specs.Prelude.{ℕ, ◌≡◌, List, map, unwrap_or, slice_get}
use Rattle.pks_terms.specs.declared.ids.ObjId.{ObjId}
use Rattle.pks_terms.specs.Views.{object_of}
use Rattle.pks_terms.specs.Problems.{Problem}
use Rattle.pks_terms.specs.Settling.{History}
use Rattle.pks_laws_symmetry.specs.Renamed.{AreImagesAlong}
use Rattle.pks_laws_symmetry.specs.Fixed.{IsSymmetry}

-- the object that the list has in the place of this one; past its end an object stays
abbrev pub image_by : List ObjId → ℕ → ℕ
image_by to d = unwrap_or (slice_get (map object_of to) d) d

-- the object has another one of its own type in its place; each of f and g takes back what the other does to it
pub record IsTakenBack (objects : List ℕ) (f g : ℕ → ℕ) (d : ℕ) : Type 0 where
  pub back : g (f d) ≡ d
  pub there : f (g d) ≡ d
  pub types : slice_get objects (f d) ≡ slice_get objects d

-- a renaming that leaves the problem as it is takes the first history to the second
pub record AreAlike (p : Problem) (h k : History) : Type 0 where
  pub to : ℕ → ℕ
  pub back : ℕ → ℕ
  pub symmetry : IsSymmetry p to back
  pub images : AreImagesAlong to back h k
