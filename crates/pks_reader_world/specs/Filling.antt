-- What is put into a world, one fact after another.
use Rattle.std.specs.Prelude.{ℕ, true, Option, Some, None, codes}
use Rattle.pks_terms.specs.Worlds.{World}
use Rattle.pks_text.specs.Forms.{Form, Forms, no_forms, form}
use Rattle.pks_terms.specs.Syntax.{Term, Atom}
use Rattle.pks_reader_names.specs.Scopes.{Scope}
use Rattle.pks_reader_names.specs.Parts.{section}
use Rattle.pks_reader_names.specs.Declarations.{first_in, second_in}
use Rattle.pks_world.specs.Contents.{with_truth, with_value}
use Rattle.pks_reader_world.specs.Naming.{object_named, atom_named, place_named}

-- an atom, where it is known, is true
abbrev pub with_atom : World → Option Atom → World
with_atom w None = w
with_atom w (Some a) = with_truth w a true

-- the atoms of the facts are true
abbrev pub with_facts : Scope → World → Forms → World
with_facts s w no_forms = w
with_facts s w (form f fs) = with_facts s (with_atom w (atom_named s f)) fs

-- a place, where it is known, has a value, where that is known
abbrev pub with_place : World → Option Term → Option ℕ → World
with_place w None value = w
with_place w (Some t) None = w
with_place w (Some t) (Some d) = with_value w t d

-- the place that an entry names has the value that it names
abbrev pub with_entry : Scope → World → Form → World
with_entry s w e = with_place w (place_named s (first_in e)) (object_named s (second_in e))

-- the places have the values that are given
abbrev pub with_entries : Scope → World → Forms → World
with_entries s w no_forms = w
with_entries s w (form e es) = with_entries s (with_place w (place_named s (first_in e)) (object_named s (second_in e))) es

-- all facts of a world are put in
abbrev pub with_all : Scope → World → Forms → World
with_all s w fs = with_entries s (with_facts s w (section (codes "true") fs)) (section (codes "values") fs)
