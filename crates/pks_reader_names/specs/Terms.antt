-- The faults of terms, literals and patterns. The forms have the shape that the grammar asks for; of other forms nothing is said.
use Rattle.std.specs.Prelude.{ℕ, zero, suc, ◌||◌, ◌+◌, ◌==◌, nat_lt, max, List, [], ◌∷◌, ◌++◌, length, Option, Some, None, codes, bytes_eq, if◌then◌else◌}
use Rattle.pks_terms.specs.declared.codes.TheConstants.{HIGH_TERM, THIRD_WILDCARD, UNDECLARED, UNKNOWN_PARAMETER, WRONG_COUNT, WRONG_TYPE}
use Rattle.pks_terms.specs.Signatures.{Shape}
use Rattle.pks_text.specs.Forms.{Form, Word, Listing, Forms, no_forms, form, place_of}
use Rattle.pks_reader_shape.specs.Words.{is_variable, is_wild}
use Rattle.pks_reader_shape.specs.Walk.{count, head_of, is_headed}
use Rattle.pks_reader_shape.specs.Files.{Fault}
use Rattle.pks_reader_names.specs.Tables.{entry_of, too_long, unknown}
use Rattle.pks_reader_names.specs.Scopes.{Scope, fits, name_in, type_of}
use Rattle.pks_reader_names.specs.Parts.{text_of, behind, behind_head, only}

-- ---- types

-- a term stands where a type is wanted that its own doesn't fit
abbrev pub mistyped : Scope → Option ℕ → Form → List Fault
mistyped s None t = []
mistyped s (Some wanted) t = elim (type_of s t) [ None ↦ [] | Some own ↦ if fits s own wanted then [] else (place_of t, WRONG_TYPE) ∷ [] ]

-- of two sides neither type fits the other
abbrev pub apart : Scope → Option ℕ → Option ℕ → ℕ → List Fault
apart s None right at = []
apart s (Some a) None at = []
apart s (Some a) (Some b) at = if fits s a b || fits s b a then [] else (at, WRONG_TYPE) ∷ []

-- ---- heights

abbrev mutual
  -- an object has height 0, a parameter 1, an application one more than its highest argument; its function's word is as low as an object
  pub height : Form → ℕ
  height (Word text at) = if is_variable text then 1 else 0
  height (Listing parts at end) = highest parts + 1

  -- the greatest height
  pub highest : Forms → ℕ
  highest no_forms = 0
  highest (form f fs) = max (height f) (highest fs)

-- a term is higher than 2. Of such terms within one another the outermost stands first
abbrev pub too_high : Form → List Fault
too_high t = if nat_lt 2 (height t) then (place_of t, HIGH_TERM) ∷ [] else []

-- ---- applications

-- the number of arguments is another than the declared one
abbrev pub miscounted : Option Shape → Forms → ℕ → List Fault
miscounted None args at = []
miscounted (Some x) args at = if length x.arguments == count args then [] else (at, WRONG_COUNT) ∷ []

-- the types of the arguments, as far as they are known
abbrev pub wanted_by : Option Shape → List ℕ
wanted_by None = []
wanted_by (Some x) = x.arguments

-- the type wanted at the first place
abbrev pub first_wanted : List ℕ → Option ℕ
first_wanted [] = None
first_wanted (t ∷ ts) = Some t

-- those wanted behind it
abbrev pub rest_wanted : List ℕ → List ℕ
rest_wanted [] = []
rest_wanted (t ∷ ts) = ts

-- the name of a predicate or function, and the number of its arguments, by the parts of its list
abbrev pub applied_faults : Option Shape → Forms → ℕ → List Fault
applied_faults shape no_forms at = []
applied_faults shape (form head args) at = too_long (text_of head) (place_of head) ++ (unknown (place_of head) UNDECLARED shape ++ miscounted shape args at)

-- ---- terms

-- a word as a term; a wildcard has no fault
abbrev pub word_faults : Scope → List ℕ → ℕ → List Fault
word_faults s text at =
    if is_wild text then [] else
    (if is_variable text then too_long (name_in text) at ++ unknown at UNKNOWN_PARAMETER (entry_of s.parameters (name_in text))
    else too_long text at ++ unknown at UNDECLARED (entry_of s.objects text))

abbrev mutual
  -- a term
  pub term_faults : Scope → Form → List Fault
  term_faults s (Word text at) = word_faults s text at
  term_faults s (Listing parts at end) =
      (too_high (Listing parts at end) ++ applied_faults (entry_of s.functions (head_of parts)) parts at)
      ++ arguments_faults s (wanted_by (entry_of s.functions (head_of parts))) parts

  -- the arguments behind a head
  pub arguments_faults : Scope → List ℕ → Forms → List Fault
  arguments_faults s wanted no_forms = []
  arguments_faults s wanted (form head args) = terms_faults s wanted args

  -- terms, where these types are wanted
  pub terms_faults : Scope → List ℕ → Forms → List Fault
  terms_faults s wanted no_forms = []
  terms_faults s wanted (form t ts) = (mistyped s (first_wanted wanted) t ++ term_faults s t) ++ terms_faults s (rest_wanted wanted) ts

-- ---- literals and patterns

-- a predicate with its arguments, by the parts of its list
abbrev pub atom_faults : Scope → Forms → ℕ → List Fault
atom_faults s parts at = applied_faults (entry_of s.predicates (head_of parts)) parts at ++ arguments_faults s (wanted_by (entry_of s.predicates (head_of parts))) parts

-- the two sides of an equation as written
abbrev pub equation_faults : Scope → Forms → List Fault
equation_faults s (form t (form u fs)) = term_faults s t ++ (term_faults s u ++ apart s (type_of s t) (type_of s u) (place_of u))
equation_faults s fs = []

-- a place, and the value that it gets
abbrev pub assigned_faults : Scope → Forms → List Fault
assigned_faults s (form t (form u fs)) = term_faults s t ++ (term_faults s u ++ mistyped s (type_of s t) u)
assigned_faults s fs = []

-- an atom or an equation
abbrev pub positive_faults : Scope → Form → List Fault
positive_faults s (Word text at) = []
positive_faults s (Listing parts at end) = if bytes_eq (head_of parts) (codes "=") then equation_faults s (behind parts) else atom_faults s parts at

-- one of these or its negation
unfoldable pub literal_faults : Scope → Form → List Fault
literal_faults s f = if is_headed (codes "not") f then only (positive_faults s) (behind_head f) else positive_faults s f

-- the places of wildcards
abbrev pub wildcards : Forms → List ℕ
wildcards no_forms = []
wildcards (form (Word text at) fs) = if is_wild text then at ∷ wildcards fs else wildcards fs
wildcards (form (Listing parts at end) fs) = wildcards fs

-- the first of these places past a number of them
abbrev pub past_places : ℕ → ℕ → List ℕ → List Fault
past_places code n [] = []
past_places code zero (p ∷ ps) = (p, code) ∷ []
past_places code (suc n) (p ∷ ps) = past_places code n ps

-- an atom that may have wildcards, of which two are allowed
unfoldable pub pattern_faults : Scope → Form → List Fault
pattern_faults s (Word text at) = []
pattern_faults s (Listing parts at end) = atom_faults s parts at ++ past_places THIRD_WILDCARD 2 (wildcards (behind parts))
