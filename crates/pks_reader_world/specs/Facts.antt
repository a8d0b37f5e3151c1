-- The faults of the facts of a world. The forms have the shape that the grammar asks for; of other forms nothing is said.
use Rattle.std.specs.Prelude.{ℕ, Bool, true, false, ◌==◌, List, [], ◌∷◌, ◌++◌, length, Option, Some, None, option_map, codes, if◌then◌else◌}
use Rattle.pks_terms.specs.declared.codes.TheConstants.{VALUE_TWICE, WORLD_MISFIT, WORLD_UNDECLARED}
use Rattle.pks_terms.specs.Syntax.{Term}
use Rattle.pks_terms.specs.Orders.{term_eq}
use Rattle.pks_terms.specs.Signatures.{Shape}
use Rattle.pks_text.specs.Forms.{Form, Forms, no_forms, form, place_of}
use Rattle.pks_reader_shape.specs.Walk.{count, head_of}
use Rattle.pks_reader_shape.specs.Files.{Fault}
use Rattle.pks_reader_names.specs.Tables.{entry_of, unknown}
use Rattle.pks_reader_names.specs.Scopes.{Scope, fits}
use Rattle.pks_reader_names.specs.Parts.{text_of, parts_of, behind_head, section, each}
use Rattle.pks_reader_names.specs.Declarations.{first_in, second_in}
use Rattle.pks_reader_names.specs.Terms.{wanted_by}
use Rattle.pks_reader_world.specs.Naming.{place_named}

-- ---- objects

-- an object's type doesn't fit the type that is wanted
abbrev pub misfit : Scope → Option ℕ → ℕ → ℕ → List Fault
misfit s None own at = []
misfit s (Some wanted) own at = if fits s own wanted then [] else (at, WORLD_MISFIT) ∷ []

-- a word names no object, or one of another type than is wanted
abbrev pub object_faults : Scope → Option ℕ → Form → List Fault
object_faults s wanted f = elim (entry_of s.objects (text_of f)) [ None ↦ (place_of f, WORLD_UNDECLARED) ∷ [] | Some own ↦ misfit s wanted own (place_of f) ]

-- words for objects, where these types are wanted one by one
abbrev pub objects_faults : Scope → List ℕ → Forms → List Fault
objects_faults s tys no_forms = []
objects_faults s [] (form f fs) = object_faults s None f ++ objects_faults s [] fs
objects_faults s (a ∷ tys) (form f fs) = object_faults s (Some a) f ++ objects_faults s tys fs

-- ---- facts

-- the number of arguments is another than the declared one
abbrev pub miscounted : Option Shape → Forms → ℕ → List Fault
miscounted None args at = []
miscounted (Some x) args at = if length x.arguments == count args then [] else (at, WORLD_MISFIT) ∷ []

-- a fact, by the shape that is declared for its head
abbrev pub fact_faults : Scope → Option Shape → Form → List Fault
fact_faults s shape f = (unknown (place_of (first_in f)) WORLD_UNDECLARED shape ++ miscounted shape (behind_head f) (place_of f)) ++ objects_faults s (wanted_by shape) (behind_head f)

-- an atom that is true
abbrev pub true_faults : Scope → Form → List Fault
true_faults s f = fact_faults s (entry_of s.predicates (head_of (parts_of f))) f

-- ---- values

-- which places have a value already
abbrev pub Given : Type 0
Given = Term → Bool

-- none has
abbrev pub none_given : Given
none_given t = false

-- this one has, too
abbrev pub with_given : Given → Term → Given
with_given given t = λ u. if term_eq t u then true else given u

-- a place, where it is known, has a value already
abbrev pub again : Given → Option Term → ℕ → List Fault
again given None at = []
again given (Some t) at = if given t then (at, VALUE_TWICE) ∷ [] else []

-- the shape of the function whose value is given
abbrev pub function_at : Scope → Form → Option Shape
function_at s f = entry_of s.functions (head_of (parts_of f))

-- a place, and the object that is its value
unfoldable pub value_faults : Scope → Given → Form → List Fault
value_faults s given e =
    (fact_faults s (function_at s (first_in e)) (first_in e) ++ again given (place_named s (first_in e)) (place_of (first_in e)))
    ++ object_faults s (option_map (λ x. x.result) (function_at s (first_in e))) (second_in e)

-- which places have a value once this one, where it is known, has one
abbrev pub once_given : Given → Option Term → Given
once_given given None = given
once_given given (Some t) = with_given given t

-- which places have a value behind this one
abbrev pub given_with : Scope → Given → Form → Given
given_with s given e = once_given given (place_named s (first_in e))

-- values, one after another
abbrev pub values_faults : Scope → Given → Forms → List Fault
values_faults s given no_forms = []
values_faults s given (form e es) = value_faults s given e ++ values_faults s (given_with s given e) es

-- which places have a value behind all of them
abbrev pub given_by : Scope → Given → Forms → Given
given_by s given no_forms = given
given_by s given (form e es) = given_by s (given_with s given e) es

-- ---- the section

-- the true atoms and the values, by the parts of the world behind its head
unfoldable pub world_faults : Scope → Forms → List Fault
world_faults s fs = each (true_faults s) (section (codes "true") fs) ++ values_faults s none_given (section (codes "values") fs)
