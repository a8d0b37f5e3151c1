-- The shape of a whole file: its first fault of shape, as a place and a code.
use Rattle.std.specs.Prelude.{ℕ, Bool, true, false, ◌&&◌, List, [], ◌∷◌, Option, Some, None, codes, bytes_eq, if◌then◌else◌, slice_get, option_map}
use Rattle.pks_terms.specs.declared.codes.TheConstants.{NOT_IN_GRAMMAR, NO_DOMAIN, NO_PROBLEM, NO_VERSION, SURPLUS_FORM, WORLD_NOT_IN_GRAMMAR}
use Rattle.pks_text.specs.Forms.{Form, Word, Listing, Forms, no_forms, form, place_of}
use Rattle.pks_reader_shape.specs.declared.grammar.Version.{Version}
use Rattle.pks_reader_shape.specs.declared.grammar.Version.TheVariants.{First, Second}
use Rattle.pks_reader_shape.specs.declared.grammar.Sort.{Sort}
use Rattle.pks_reader_shape.specs.declared.grammar.Sort.TheVariants.{Domain, Problem, World}
use Rattle.pks_reader_shape.specs.Walk.{is_headed, fault_in}

-- a place and a code
abbrev pub Fault : Type 0
Fault = ℕ × ℕ

-- the first, or else the later
abbrev pub or_else : {X : Type 0} → Option X → Option X → Option X
or_else None later = later
or_else (Some x) later = Some x

-- a form that is this word
abbrev pub is_word : List ℕ → Form → Bool
is_word wanted (Word text at) = bytes_eq text wanted
is_word wanted (Listing parts at end) = false

-- forms that are these words in order
abbrev pub are_words : List (List ℕ) → Forms → Bool
are_words [] no_forms = true
are_words [] (form f fs) = false
are_words (w ∷ ws) no_forms = false
are_words (w ∷ ws) (form f fs) = is_word w f && are_words ws fs

-- a list of these words
abbrev pub is_list_of : List (List ℕ) → Form → Bool
is_list_of words (Word text at) = false
is_list_of words (Listing parts at end) = are_words words parts

-- the version that a form states: `(pks 1)` is the first and `(pks 2)` the second
unfoldable pub stated : Form → Option Version
stated f =
    if is_list_of (codes "pks" ∷ codes "1" ∷ []) f then Some First
    else (if is_list_of (codes "pks" ∷ codes "2" ∷ []) f then Some Second else None)

-- it states a version
abbrev pub is_version : Form → Bool
is_version f = elim (stated f) [ None ↦ false | Some v ↦ true ]

-- the version of a file, by its first form
abbrev pub version_of : List Form → Version
version_of [] = First
version_of (f ∷ fs) = elim (stated f) [ None ↦ First | Some v ↦ v ]

-- the number of a version
abbrev pub number_of : Version → ℕ
number_of First = 1
number_of Second = 2

-- the form passes the test. Where there is none, the place is the end of the text
abbrev pub top_fault : ℕ → (Form → Bool) → ℕ → Option Form → Option Fault
top_fault code test end None = Some (end, code)
top_fault code test end (Some f) = if test f then None else Some (place_of f, code)

-- a fourth form is a world, and there is no fifth
abbrev pub rest_fault : Option Form → Option Form → Option Fault
rest_fault None fifth = None
rest_fault (Some f) fifth = if is_headed (codes "world") f then option_map (λ g. (place_of g, SURPLUS_FORM)) fifth else Some (place_of f, SURPLUS_FORM)

-- a form that the grammar hasn't at its place
abbrev pub walk_fault : ℕ → Version → Sort → Option Form → Option Fault
walk_fault code v s None = None
walk_fault code v s (Some f) = option_map (λ at. (at, code)) (fault_in v s f)

-- the text has this many bytes and these forms
unfoldable pub shape_fault : ℕ → List Form → Option Fault
shape_fault end fs =
    or_else (top_fault NO_VERSION is_version end (slice_get fs 0))
    (or_else (top_fault NO_DOMAIN (is_headed (codes "domain")) end (slice_get fs 1))
    (or_else (top_fault NO_PROBLEM (is_headed (codes "problem")) end (slice_get fs 2))
    (or_else (rest_fault (slice_get fs 3) (slice_get fs 4))
    (or_else (walk_fault NOT_IN_GRAMMAR (version_of fs) Domain (slice_get fs 1)) (walk_fault NOT_IN_GRAMMAR (version_of fs) Problem (slice_get fs 2))))))

-- the same of a world, which is asked later
abbrev pub world_shape_fault : List Form → Option Fault
world_shape_fault fs = walk_fault WORLD_NOT_IN_GRAMMAR (version_of fs) World (slice_get fs 3)
