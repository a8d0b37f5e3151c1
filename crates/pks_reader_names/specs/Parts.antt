-- Parts of lists, and limits on their number.
use Rattle.std.specs.Prelude.{ℕ, zero, suc, List, [], ◌∷◌, ◌++◌, Option, Some, None, if◌then◌else◌}
use Rattle.pks_terms.specs.declared.codes.TheConstants.{PAST_LIMIT}
use Rattle.pks_text.specs.Forms.{Form, Word, Listing, Forms, no_forms, form, place_of}
use Rattle.pks_reader_shape.specs.Walk.{is_headed}
use Rattle.pks_reader_shape.specs.Files.{Fault}

-- the word, or no bytes
abbrev pub text_of : Form → List ℕ
text_of (Word text at) = text
text_of (Listing parts at end) = []

-- the parts of a list
abbrev pub parts_of : Form → Forms
parts_of (Word text at) = no_forms
parts_of (Listing parts at end) = parts

-- the parts behind the head
abbrev pub behind : Forms → Forms
behind no_forms = no_forms
behind (form head parts) = parts

-- the parts of a list behind its head
abbrev pub behind_head : Form → Forms
behind_head f = behind (parts_of f)

-- the parts of the section with this head; a section that is missing is empty
abbrev pub section : List ℕ → Forms → Forms
section head no_forms = no_forms
section head (form f fs) = if is_headed head f then behind_head f else section head fs

-- the first n forms
abbrev pub first_forms : ℕ → Forms → Forms
first_forms zero fs = no_forms
first_forms (suc n) no_forms = no_forms
first_forms (suc n) (form f fs) = form f (first_forms n fs)

-- all but the last
abbrev pub all_but_last : Forms → Forms
all_but_last no_forms = no_forms
all_but_last (form f no_forms) = no_forms
all_but_last (form f (form g fs)) = form f (all_but_last (form g fs))

-- the last
abbrev pub last_of : Forms → Option Form
last_of no_forms = None
last_of (form f no_forms) = Some f
last_of (form f (form g fs)) = last_of (form g fs)

-- ---- faults of parts

-- the faults of each form
abbrev pub each : (Form → List Fault) → Forms → List Fault
each faults no_forms = []
each faults (form f fs) = faults f ++ each faults fs

-- the faults of the first form; the grammar has no other there
abbrev pub only : (Form → List Fault) → Forms → List Fault
only faults no_forms = []
only faults (form f fs) = faults f

-- the first form past a number of them
abbrev pub past : ℕ → Forms → List Fault
past n no_forms = []
past zero (form f fs) = (place_of f, PAST_LIMIT) ∷ []
past (suc n) (form f fs) = past n fs
