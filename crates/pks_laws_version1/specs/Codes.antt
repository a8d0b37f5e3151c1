-- The codes that speak of types, and the limit on objects, by the texts of the first version.
use Rattle.std.specs.Prelude.{◌≡◌, ℕ, Bool, false, ◌||◌, ◌==◌, List, [], ◌∷◌, Option, Some, None, if◌then◌else◌}
use Rattle.pks_terms.specs.declared.codes.TheConstants.{EMPTY_TYPE, WORLD_MISFIT, WRONG_TYPE}
use Rattle.pks_terms.specs.Sets.{Each}
use Rattle.pks_text.specs.Forms.{Form, Forms, place_of}
use Rattle.pks_reader_shape.specs.Files.{Fault}
use Rattle.pks_reader_names.specs.Tables.{number_of, entries_of}
use Rattle.pks_reader_names.specs.Scopes.{Scope, type_of}
use Rattle.pks_reader_names.specs.Parts.{text_of}
use Rattle.pks_reader_names.specs.Declarations.{Types, objects_faults}

-- no declared type has a parent
abbrev pub HasNoParents : Scope → Type 0
HasNoParents s = Each (λ o. o ≡ None) (entries_of s.types)

-- 206: an argument or an assigned value has another type than is needed
abbrev pub mistyped : Scope → Option ℕ → Form → List Fault
mistyped s None t = []
mistyped s (Some wanted) t = elim (type_of s t) [ None ↦ [] | Some own ↦ if own == wanted then [] else (place_of t, WRONG_TYPE) ∷ [] ]

-- 206: the right side of an equation as written has another type than the left
abbrev pub apart : Option ℕ → Option ℕ → ℕ → List Fault
apart None right at = []
apart (Some a) None at = []
apart (Some a) (Some b) at = if a == b then [] else (at, WRONG_TYPE) ∷ []

-- an object has the type
abbrev pub has_object : List ℕ → ℕ → Bool
has_object [] wanted = false
has_object (own ∷ owns) wanted = (own == wanted) || has_object owns wanted

-- 209: the result type of a function is declared and has no object
abbrev pub empty_faults : Scope → Option Form → List Fault
empty_faults s None = []
empty_faults s (Some f) = elim (number_of s.types (text_of f)) [ None ↦ [] | Some wanted ↦ if has_object (entries_of s.objects) wanted then [] else (place_of f, EMPTY_TYPE) ∷ [] ]

-- 302: an argument or a value has the wrong type
abbrev pub misfit : Option ℕ → ℕ → ℕ → List Fault
misfit None own at = []
misfit (Some wanted) own at = if own == wanted then [] else (at, WORLD_MISFIT) ∷ []

-- 208: the first object past 64
abbrev pub objects_section : Types → Forms → List Fault
objects_section types fs = objects_faults types 64 [] fs
