-- The least of some faults: by place, and at one place by code.
use Rattle.std.specs.Prelude.{◌≡◌, ◌⊎◌, false, List, [], ◌∷◌}
use Rattle.pks_reader_shape.specs.Files.{Fault}
use Rattle.pks_reader_names.specs.Meaning.{is_before}

-- the fault is one of these
abbrev pub IsIn : Fault → List Fault → Type 0
IsIn f [] = ⊥
IsIn f (g ∷ fs) = (f ≡ g) ⊎ IsIn f fs

-- it is one of these, and none comes before it
pub record IsLeast (f : Fault) (fs : List Fault) : Type 0 where
  pub among : IsIn f fs
  pub least : (g : Fault) → IsIn g fs → is_before g f ≡ false
