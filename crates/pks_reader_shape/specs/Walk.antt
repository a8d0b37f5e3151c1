-- The first form that is not what the grammar has at its place. Forms are walked from left to right, each list before its parts.
use Rattle.std.specs.Prelude.{ℕ, Bool, true, false, ◌||◌, ◌&&◌, ◌+◌, nat_lt, List, [], ◌∷◌, length, Option, Some, None, bytes_eq, if◌then◌else◌}
use Rattle.pks_text.specs.Forms.{Form, Word, Listing, Forms, no_forms, form}
use Rattle.pks_reader_shape.specs.declared.grammar.Version.{Version}
use Rattle.pks_reader_shape.specs.declared.grammar.Sort.{Sort}
use Rattle.pks_reader_shape.specs.declared.grammar.Sort.TheVariants.{Nothing}
use Rattle.pks_reader_shape.specs.declared.grammar.Part.{Part}
use Rattle.pks_reader_shape.specs.declared.grammar.Part.TheVariants.{One, Maybe, Many}
use Rattle.pks_reader_shape.specs.Grammar.{is_allowed, production, head_of_section}

-- the first word of parts, or no bytes
abbrev pub head_of : Forms → List ℕ
head_of no_forms = []
head_of (form (Word text at) fs) = text
head_of (form (Listing parts at end) fs) = []

-- a list with this head
abbrev pub is_headed : List ℕ → Form → Bool
is_headed head (Word text at) = false
is_headed head (Listing parts at end) = bytes_eq (head_of parts) head

-- the sort for which the next part stands. A part that may be missing is there where the form has its head
abbrev pub sort_at : Version → List Part → Form → Sort
sort_at v [] f = Nothing
sort_at v (One s ∷ ps) f = s
sort_at v (Many s ∷ ps) f = s
sort_at v (Maybe s ∷ ps) f = if is_headed (head_of_section v s) f then s else sort_at v ps f

-- the parts that may come behind it
abbrev pub parts_after : Version → List Part → Form → List Part
parts_after v [] f = []
parts_after v (One s ∷ ps) f = ps
parts_after v (Many s ∷ ps) f = Many s ∷ ps
parts_after v (Maybe s ∷ ps) f = if is_headed (head_of_section v s) f then ps else parts_after v ps f

-- a part must still come
abbrev pub is_wanting : List Part → Bool
is_wanting [] = false
is_wanting (One s ∷ ps) = true
is_wanting (Many s ∷ ps) = is_wanting ps
is_wanting (Maybe s ∷ ps) = is_wanting ps

-- a part is missing
abbrev pub lacks : Version → List Part → Forms → Bool
lacks v ps no_forms = is_wanting ps
lacks v ps (form f fs) = lacks v (parts_after v ps f) fs

-- the number of parts is fixed
abbrev pub is_fixed : List Part → Bool
is_fixed [] = true
is_fixed (One s ∷ ps) = is_fixed ps
is_fixed (Many s ∷ ps) = false
is_fixed (Maybe s ∷ ps) = false

-- how many forms there are
abbrev pub count : Forms → ℕ
count no_forms = 0
count (form f fs) = count fs + 1

-- a part is missing, or there are too many where the number is fixed
abbrev pub is_miscounted : Version → List Part → Forms → Bool
is_miscounted v ps fs = lacks v ps fs || (is_fixed ps && nat_lt (length ps) (count fs))

-- the first place, or else the later
abbrev pub first_of : Option ℕ → Option ℕ → Option ℕ
first_of None later = later
first_of (Some at) later = Some at

unfoldable mutual
  -- the place of the first fault in a form of a sort
  pub fault_in : Version → Sort → Form → Option ℕ
  fault_in v s (Word text at) = if is_allowed s text then None else Some at
  fault_in v s (Listing parts at end) = elim (production v s (head_of parts)) [
    | None ↦ Some at
    | Some ps ↦ if is_miscounted v ps parts then Some at else fault_among v ps parts
  ]

  -- the place of the first fault in parts
  pub fault_among : Version → List Part → Forms → Option ℕ
  fault_among v ps no_forms = None
  fault_among v ps (form f fs) = first_of (fault_in v (sort_at v ps f) f) (fault_among v (parts_after v ps f) fs)
