-- What the words of a fact name. A fact with a word that isn't declared names nothing.
use Rattle.std.specs.Prelude.{ℕ, zero, suc, List, [], ◌∷◌, Option, Some, None, option_map, option_and_then}
use Rattle.pks_terms.specs.Syntax.{Term, Atom, place}
use Rattle.pks_text.specs.Forms.{Form, Forms, no_forms, form}
use Rattle.pks_reader_shape.specs.Walk.{head_of}
use Rattle.pks_reader_names.specs.Tables.{number_of}
use Rattle.pks_reader_names.specs.Scopes.{Scope}
use Rattle.pks_reader_names.specs.Parts.{text_of, parts_of, behind_head}
use Rattle.pks_world.specs.Contents.{ground}

-- the object that a word names
abbrev pub object_named : Scope → Form → Option ℕ
object_named s f = number_of s.objects (text_of f)

-- the objects that words name, of which there may be at most n
abbrev pub objects_named : Scope → ℕ → Forms → Option (List ℕ)
objects_named s zero no_forms = Some []
objects_named s zero (form f fs) = None
objects_named s (suc n) no_forms = Some []
objects_named s (suc n) (form f fs) = option_and_then (λ d. option_map (λ ds. d ∷ ds) (objects_named s n fs)) (object_named s f)

-- the atom that a fact names: a predicate at no more than three objects
abbrev pub atom_named : Scope → Form → Option Atom
atom_named s f = option_and_then (λ p. option_map (ground p) (objects_named s 3 (behind_head f))) (number_of s.predicates (head_of (parts_of f)))

-- the place that a fact names: a function at no more than two objects
abbrev pub place_named : Scope → Form → Option Term
place_named s f = option_and_then (λ n. option_map (place n) (objects_named s 2 (behind_head f))) (number_of s.functions (head_of (parts_of f)))
