-- What the sections of a domain declare, and the faults of declarations.
use Rattle.std.specs.Prelude.{ℕ, zero, suc, Bool, false, ◌||◌, ◌-◌, ◌==◌, nat_lt, List, [], ◌∷◌, ◌++◌, length, Option, Some, None, codes, bytes_eq, if◌then◌else◌, unwrap_or}
use Rattle.pks_terms.specs.declared.codes.TheConstants.{BARRED_NAME, EMPTY_TYPE, PAST_LIMIT, UNDECLARED}
use Rattle.pks_terms.specs.Signatures.{Shape}
use Rattle.pks_text.specs.Forms.{Form, Forms, no_forms, form, place_of}
use Rattle.pks_reader_shape.specs.Walk.{is_headed, count}
use Rattle.pks_reader_shape.specs.Files.{Fault}
use Rattle.pks_reader_names.specs.Tables.{Table, number_of, entries_of, declare, too_long, unknown, twice}
use Rattle.pks_reader_names.specs.Scopes.{Scope, fits, name_in}
use Rattle.pks_reader_names.specs.Parts.{text_of, parts_of, behind_head, section, first_forms, all_but_last, last_of, each, only, past}
use Rattle.pks_reader_names.specs.Sentences.{query_faults, effect_faults, sense_faults, add_faults, parts_faults}

-- ---- names

-- the first of some forms, or else this one
abbrev pub first_or : Form → Forms → Form
first_or f no_forms = f
first_or f (form g gs) = g

-- the first part of a list, or a word itself
abbrev pub first_in : Form → Form
first_in f = first_or f (parts_of f)

-- the second part of a list
abbrev pub second_in : Form → Form
second_in f = first_or f (behind_head f)

-- the name that a word declares, that of a parameter behind the `?`
abbrev pub name_of : Form → List ℕ
name_of w = name_in (text_of w)

-- the name is short, and not declared before
abbrev pub name_faults : {X : Type 0} → Table X → Form → List Fault
name_faults table w = too_long (name_of w) (place_of w) ++ twice table (name_of w) (place_of w)

-- the names of entries, by the word that names an entry, and what is said of each
abbrev pub table_from : {X : Type 0} → (Form → Form) → (Form → X) → Table X → Forms → Table X
table_from named said table no_forms = table
table_from named said table (form f fs) = table_from named said (declare table (name_of (named f)) (said f)) fs

-- their faults, and what else may be wrong with an entry
abbrev pub entries_faults : {X : Type 0} → (Form → Form) → (Form → X) → (Form → List Fault) → Table X → Forms → List Fault
entries_faults named said faults table no_forms = []
entries_faults named said faults table (form f fs) =
    (name_faults table (named f) ++ faults f) ++ entries_faults named said faults (declare table (name_of (named f)) (said f)) fs

-- the name is one too many, whatever else is said of it
abbrev pub surplus_faults : {X : Type 0} → Table X → Form → List Fault
surplus_faults table w = name_faults table w ++ ((place_of w, PAST_LIMIT) ∷ [])

-- the first name past a number of them, where these are declared. What stands behind it has a later place
abbrev pub past_names : {X : Type 0} → Table X → (Form → Form) → ℕ → Forms → List Fault
past_names table named n no_forms = []
past_names table named zero (form f fs) = surplus_faults table (named f)
past_names table named (suc n) (form f fs) = past_names table named n fs

-- the table of at most n entries
abbrev pub section_table : {X : Type 0} → (Form → Form) → ℕ → (Form → X) → Forms → Table X
section_table named n said fs = table_from named said [] (first_forms n fs)

-- the faults of at most n entries, and of the first name past them
abbrev pub section_faults : {X : Type 0} → (Form → Form) → ℕ → (Form → X) → (Form → List Fault) → Forms → List Fault
section_faults named n said faults fs = entries_faults named said faults [] (first_forms n fs) ++ past_names (section_table named n said fs) named n fs

-- nothing else may be wrong
abbrev pub no_faults : Form → List Fault
no_faults f = []

-- nothing is said
abbrev pub nothing : Form → Unit {0}
nothing f = tt {0}

-- ---- types

-- the types, with their parents
abbrev pub Types : Type 0
Types = Table (Option ℕ)

-- the form names a type
abbrev pub type_faults : Types → Form → List Fault
type_faults types f = too_long (text_of f) (place_of f) ++ unknown (place_of f) UNDECLARED (number_of types (text_of f))

-- the number of the type that it names
abbrev pub type_named : Types → Form → ℕ
type_named types f = unwrap_or (number_of types (text_of f)) 0

-- the number of the type that the first form names
abbrev pub parent_named : Types → Forms → Option ℕ
parent_named types no_forms = None
parent_named types (form f fs) = number_of types (text_of f)

-- each parent is declared earlier
abbrev pub types_from : Types → Forms → Types
types_from types no_forms = types
types_from types (form f fs) = types_from (declare types (name_of (first_in f)) (parent_named types (behind_head f))) fs

-- the faults of types
abbrev pub types_faults : Types → Forms → List Fault
types_faults types no_forms = []
types_faults types (form f fs) = (name_faults types (first_in f) ++ only (type_faults types) (behind_head f)) ++ types_faults (declare types (name_of (first_in f)) (parent_named types (behind_head f))) fs

-- at most 16 types
abbrev pub types_in : Forms → Types
types_in fs = types_from [] (first_forms 16 fs)

-- the faults of the section
unfoldable pub types_section : Forms → List Fault
types_section fs = types_faults [] (first_forms 16 fs) ++ past_names (types_in fs) first_in 16 fs

-- ---- objects

-- the objects of one entry, of which n may come
abbrev pub objects_with : Types → ℕ → Table ℕ → Form → Table ℕ
objects_with types n table f = table_from first_in (λ g. type_named types (first_in f)) table (first_forms n (behind_head f))

-- the objects of entries, each entry having a type and its objects, at most n in all
abbrev pub objects_from : Types → ℕ → Table ℕ → Forms → Table ℕ
objects_from types n table no_forms = table
objects_from types n table (form f fs) = objects_from types (n - count (behind_head f)) (objects_with types n table f) fs

-- the faults of one entry's objects
abbrev pub objects_faults_in : Types → ℕ → Table ℕ → Form → List Fault
objects_faults_in types n table f =
    type_faults types (first_in f)
    ++ (entries_faults first_in (λ g. type_named types (first_in f)) no_faults table (first_forms n (behind_head f))
    ++ past_names (objects_with types n table f) first_in n (behind_head f))

-- the faults of objects, of which n may come
abbrev pub objects_faults : Types → ℕ → Table ℕ → Forms → List Fault
objects_faults types n table no_forms = []
objects_faults types n table (form f fs) =
    objects_faults_in types n table f ++ objects_faults types (n - count (behind_head f)) (objects_with types n table f) fs

-- how many objects a file of this version may have
abbrev pub most_objects : ℕ → ℕ
most_objects version = if version == 1 then 64 else 256

-- the objects of the section
abbrev pub objects_in : ℕ → Types → Forms → Table ℕ
objects_in version types fs = objects_from types (most_objects version) [] fs

-- the faults of the section
unfoldable pub objects_section : ℕ → Types → Forms → List Fault
objects_section version types fs = objects_faults types (most_objects version) [] fs

-- ---- predicates

-- the types of the first n forms
abbrev pub types_named : Types → ℕ → Forms → List ℕ
types_named types zero fs = []
types_named types (suc n) no_forms = []
types_named types (suc n) (form f fs) = type_named types f ∷ types_named types n fs

-- a predicate's argument types
unfoldable pub predicate_in : Types → Form → Shape
predicate_in types f = record { arguments = types_named types 3 (behind_head f); result = 0 }

-- a predicate isn't named `not`
abbrev pub barred_faults : Form → List Fault
barred_faults f = if bytes_eq (name_of (first_in f)) (codes "not") then (place_of (first_in f), BARRED_NAME) ∷ [] else []

-- it has at most three arguments
unfoldable pub predicate_faults : Types → Form → List Fault
predicate_faults types f = each (type_faults types) (behind_head f) ++ past 3 (behind_head f)

-- at most 32 predicates
abbrev pub predicates_in : Types → Forms → Table Shape
predicates_in types fs = section_table first_in 32 (predicate_in types) fs

-- the faults of the section
unfoldable pub predicates_section : Types → Forms → List Fault
predicates_section types fs = each barred_faults fs ++ section_faults first_in 32 (predicate_in types) (predicate_faults types) fs

-- ---- functions

-- the type that the last form names
abbrev pub result_named : Types → Option Form → ℕ
result_named types None = 0
result_named types (Some f) = type_named types f

-- a function's argument types, and its result type
unfoldable pub function_in : Types → Form → Shape
function_in types f = record { arguments = types_named types 2 (all_but_last (behind_head f)); result = result_named types (last_of (behind_head f)) }

-- an object is of the type
abbrev pub has_object : Scope → List ℕ → ℕ → Bool
has_object s [] wanted = false
has_object s (own ∷ owns) wanted = fits s own wanted || has_object s owns wanted

-- the type is declared and has no object
abbrev pub empty_faults : Scope → Option Form → List Fault
empty_faults s None = []
empty_faults s (Some f) = elim (number_of s.types (text_of f)) [ None ↦ [] | Some wanted ↦ if has_object s (entries_of s.objects) wanted then [] else (place_of f, EMPTY_TYPE) ∷ [] ]

-- a function has at most two arguments, and its result type has an object
unfoldable pub function_faults : Scope → Form → List Fault
function_faults s f =
    each (type_faults s.types) (behind_head f) ++ (past 2 (all_but_last (behind_head f)) ++ empty_faults s (last_of (behind_head f)))

-- at most 32 functions
abbrev pub functions_in : Types → Forms → Table Shape
functions_in types fs = section_table first_in 32 (function_in types) fs

-- the faults of the section, where these types and objects are declared
unfoldable pub functions_section : Scope → Forms → List Fault
functions_section s fs = section_faults first_in 32 (function_in s.types) (function_faults s) fs

-- ---- actions

-- a parameter's type
abbrev pub parameter_in : Types → Form → ℕ
parameter_in types f = type_named types (second_in f)

-- at most 4 parameters
abbrev pub parameters_in : Types → Forms → Table ℕ
parameters_in types fs = section_table first_in 4 (parameter_in types) fs

-- what is declared within an action
unfoldable pub within : Scope → Forms → Scope
within s fs = record s { parameters = parameters_in s.types (section (codes "params") fs) }

-- the faults of parameters
unfoldable pub parameters_section : Types → Forms → List Fault
parameters_section types fs = section_faults first_in 4 (parameter_in types) (λ f. only (type_faults types) (behind_head f)) fs

-- A number doesn't begin with `0`, so it is above 9,999 where it has more than four digits.
abbrev pub cost_faults : Form → List Fault
cost_faults f = if nat_lt 4 (length (text_of f)) then (place_of f, PAST_LIMIT) ∷ [] else []

-- the faults of an action's parts, each section having at most 16
unfoldable pub parts_section : Scope → Forms → List Fault
parts_section s fs =
    parts_faults 16 (query_faults s) (section (codes "pre") fs)
    ++ (parts_faults 16 (effect_faults s) (section (codes "effects") fs)
    ++ (parts_faults 16 (sense_faults s) (section (codes "senses") fs) ++ parts_faults 16 (add_faults s) (section (codes "knows") fs)))

-- the faults of an action's sections
unfoldable pub action_faults : Scope → Forms → List Fault
action_faults s fs =
    only cost_faults (section (codes "cost") fs) ++ (parameters_section s.types (section (codes "params") fs) ++ parts_section (within s fs) fs)

-- the actions, which are the last sections of a domain
abbrev pub actions_among : Forms → Forms
actions_among no_forms = no_forms
actions_among (form f fs) = if is_headed (codes "action") f then form f fs else actions_among fs

-- at most 64 actions
unfoldable pub actions_section : Scope → Forms → List Fault
actions_section s fs = section_faults second_in 64 nothing (λ f. action_faults s (behind_head f)) (actions_among fs)
