-- The world that a file states, or the first fault of its world.
use Rattle.std.specs.Prelude.{ℕ, Bool, false, ◌||◌, List, Option, Some, None, codes, slice_get, if◌then◌else◌, unwrap_or}
use Rattle.std.specs.Option.{option_map_or}
use Rattle.pks_terms.specs.declared.codes.TheConstants.{VALUE_MISSING, WORLD_MISSING}
use Rattle.pks_terms.specs.Syntax.{Term, Atom, place}
use Rattle.pks_terms.specs.Orders.{term_eq}
use Rattle.pks_terms.specs.Worlds.{World}
use Rattle.pks_text.specs.Forms.{Form, Forms, no_forms, form, place_of}
use Rattle.pks_reader_shape.specs.Files.{Fault, or_else, version_of, number_of, world_shape_fault}
use Rattle.pks_reader_names.specs.Scopes.{Scope, signature_in}
use Rattle.pks_reader_names.specs.Parts.{behind_head, section}
use Rattle.pks_reader_names.specs.Declarations.{first_in, second_in}
use Rattle.pks_reader_names.specs.Meaning.{least, scope_of}
use Rattle.pks_world.specs.Contents.{ground, atom_eq}
use Rattle.pks_world.specs.First.{least_value}
use Rattle.pks_reader_world.specs.Naming.{object_named, atom_named, place_named}
use Rattle.pks_reader_world.specs.Facts.{none_given, given_by, world_faults}
use Rattle.pks_reader_world.specs.Places.{is_full}

-- ---- the world

-- one of the facts names the atom
abbrev pub is_listed : Scope → Forms → Atom → Bool
is_listed s no_forms a = false
is_listed s (form f fs) a = option_map_or (λ b. atom_eq b a) (atom_named s f) false || is_listed s fs a

-- the value at a place once it is given, where it was d before
abbrev pub value_with : Scope → Form → Term → ℕ → ℕ
value_with s e t d = option_map_or (λ u. if term_eq u t then unwrap_or (object_named s (second_in e)) d else d) (place_named s (first_in e)) d

-- the value that these give a place, or else d. Without a fault no place is given two
abbrev pub value_given : Scope → Forms → Term → ℕ → ℕ
value_given s no_forms t d = d
value_given s (form e es) t d = value_given s es t (value_with s e t d)

-- The listed atoms are true and no others, and each place has the value that is given for it. What isn't a place of the signature has the least
-- object of the function's result type.
unfoldable pub world_in : Scope → Forms → World
world_in s fs = record {
  truth = λ p ds. is_listed s (section (codes "true") fs) (ground p ds);
  value = λ f ds. value_given s (section (codes "values") fs) (place f ds) (least_value (signature_in s) f);
}

-- ---- the file

-- a place of the signature has no value: the fault is at the world list
abbrev pub missing_fault : Scope → Form → Option Fault
missing_fault s w = if is_full (signature_in s) (given_by s none_given (section (codes "values") (behind_head w))) then None else Some (place_of w, VALUE_MISSING)

-- the first fault of a world of this shape
unfoldable pub contents_fault : Scope → Form → Option Fault
contents_fault s w = or_else (least (world_faults s (behind_head w))) (missing_fault s w)

-- the parts behind the head of the top form with this number, counted from 0
abbrev pub parts_at : List Form → ℕ → Forms
parts_at fs n = option_map_or behind_head (slice_get fs n) no_forms

-- the place of the top form with this number
abbrev pub place_at : List Form → ℕ → ℕ
place_at fs n = option_map_or place_of (slice_get fs n) 0

-- what the domain of a file declares
unfoldable pub declared_by : List Form → Scope
declared_by fs = scope_of (number_of (version_of fs)) (parts_at fs 1)

-- the first fault of a file's world: that there is none, its shape, its facts
unfoldable pub world_fault : List Form → Option Fault
world_fault fs = elim (slice_get fs 3) [ None ↦ Some (place_at fs 2, WORLD_MISSING) | Some w ↦ or_else (world_shape_fault fs) (contents_fault (declared_by fs) w) ]

-- the world of a file, whose fourth form it is
unfoldable pub world_by : List Form → World
world_by fs = world_in (declared_by fs) (parts_at fs 3)
