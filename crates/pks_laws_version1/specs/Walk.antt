-- The first form that isn't what the grammar of the first version has at its place, and the first fault of shape of a whole file.
use Rattle.std.specs.Prelude.{ℕ, Bool, ◌||◌, ◌&&◌, nat_lt, List, [], ◌∷◌, length, Option, Some, None, option_map, slice_get, codes, if◌then◌else◌}
use Rattle.pks_terms.specs.declared.codes.TheConstants.{NOT_IN_GRAMMAR, NO_DOMAIN, NO_PROBLEM, NO_VERSION, WORLD_NOT_IN_GRAMMAR}
use Rattle.pks_text.specs.Forms.{Form, Word, Listing, Forms, no_forms, form}
use Rattle.pks_reader_shape.specs.declared.grammar.Sort.{Sort}
use Rattle.pks_reader_shape.specs.declared.grammar.Sort.TheVariants.{Domain, Problem, World, Nothing}
use Rattle.pks_reader_shape.specs.declared.grammar.Part.{Part}
use Rattle.pks_reader_shape.specs.declared.grammar.Part.TheVariants.{One, Maybe, Many}
use Rattle.pks_reader_shape.specs.Grammar.{is_allowed, is_among, with_head}
use Rattle.pks_reader_shape.specs.Walk.{head_of, is_headed, is_wanting, is_fixed, count, first_of}
use Rattle.pks_reader_shape.specs.Files.{Fault, or_else, is_list_of, top_fault, rest_fault}
use Rattle.pks_laws_version1.specs.Grammar.{lists}

-- ---- one form

-- the parts of a list of a sort, by its head; none where it may not have this head
abbrev pub production : Sort → List ℕ → Option (List Part)
production s head = with_head head (lists s).fixed (if is_among head (lists s).barred then None else (lists s).other)

-- a section that may be missing has one head
abbrev pub head_of_section : Sort → List ℕ
head_of_section s = elim (lists s).fixed [ [] ↦ [] | p ∷ ps ↦ p.0 ]

-- the sort for which the next part stands. A part that may be missing is there where the form has its head
abbrev pub sort_at : List Part → Form → Sort
sort_at [] f = Nothing
sort_at (One s ∷ ps) f = s
sort_at (Many s ∷ ps) f = s
sort_at (Maybe s ∷ ps) f = if is_headed (head_of_section s) f then s else sort_at ps f

-- the parts that may come behind it
abbrev pub parts_after : List Part → Form → List Part
parts_after [] f = []
parts_after (One s ∷ ps) f = ps
parts_after (Many s ∷ ps) f = Many s ∷ ps
parts_after (Maybe s ∷ ps) f = if is_headed (head_of_section s) f then ps else parts_after ps f

-- a part is missing
abbrev pub lacks : List Part → Forms → Bool
lacks ps no_forms = is_wanting ps
lacks ps (form f fs) = lacks (parts_after ps f) fs

-- a part is missing, or there are too many where the number is fixed
abbrev pub is_miscounted : List Part → Forms → Bool
is_miscounted ps fs = lacks ps fs || (is_fixed ps && nat_lt (length ps) (count fs))

unfoldable mutual
  -- the place of the first fault in a form of a sort
  pub fault_in : Sort → Form → Option ℕ
  fault_in s (Word text at) = if is_allowed s text then None else Some at
  fault_in s (Listing parts at end) = elim (production s (head_of parts)) [
    | None ↦ Some at
    | Some ps ↦ if is_miscounted ps parts then Some at else fault_among ps parts
  ]

  -- the place of the first fault in parts
  pub fault_among : List Part → Forms → Option ℕ
  fault_among ps no_forms = None
  fault_among ps (form f fs) = first_of (fault_in (sort_at ps f) f) (fault_among (parts_after ps f) fs)

-- ---- whole files

-- `(pks 1)`
abbrev pub states_version : Form → Bool
states_version f = is_list_of (codes "pks" ∷ codes "1" ∷ []) f

-- a form that the grammar hasn't at its place
abbrev pub walk_fault : ℕ → Sort → Option Form → Option Fault
walk_fault code s None = None
walk_fault code s (Some f) = option_map (λ at. (at, code)) (fault_in s f)

-- the text has this many bytes and these forms: `(pks 1)`, a domain, a problem, and then maybe a world
unfoldable pub shape_fault : ℕ → List Form → Option Fault
shape_fault end fs =
    or_else (top_fault NO_VERSION states_version end (slice_get fs 0))
    (or_else (top_fault NO_DOMAIN (is_headed (codes "domain")) end (slice_get fs 1))
    (or_else (top_fault NO_PROBLEM (is_headed (codes "problem")) end (slice_get fs 2))
    (or_else (rest_fault (slice_get fs 3) (slice_get fs 4))
    (or_else (walk_fault NOT_IN_GRAMMAR Domain (slice_get fs 1)) (walk_fault NOT_IN_GRAMMAR Problem (slice_get fs 2))))))

-- the same of a world, which is asked later
abbrev pub world_shape_fault : List Form → Option Fault
world_shape_fault fs = walk_fault WORLD_NOT_IN_GRAMMAR World (slice_get fs 3)
