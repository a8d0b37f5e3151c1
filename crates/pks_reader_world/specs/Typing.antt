-- Facts that name atoms and values of the declared types.
use Rattle.std.specs.Prelude.{ℕ, ◌≡◌, List, [], map, Some, slice_get}
use Rattle.pks_terms.specs.Sets.{IsIn}
use Rattle.pks_terms.specs.Syntax.{Object, place}
use Rattle.pks_terms.specs.Signatures.{Shape, objects_of}
use Rattle.pks_terms.specs.Meaning.{AreOfTypes}
use Rattle.pks_terms.specs.Typed.{AllMayStand}
use Rattle.pks_terms.specs.Valid.{IsValidSignature}
use Rattle.pks_terms.specs.Worlds.{World}
use Rattle.pks_text.specs.Forms.{Form}
use Rattle.pks_reader_names.specs.Scopes.{Scope, signature_in}
use Rattle.pks_reader_names.specs.Declarations.{first_in, second_in}
use Rattle.pks_world.specs.declared.worlds.World.{World as DWorld}
use Rattle.pks_world.specs.Contents.{ground}
use Rattle.pks_world.specs.Counts.{WorldCounts}
use Rattle.pks_world.specs.First.{IsWorldOf}
use Rattle.pks_reader_world.specs.Naming.{object_named, atom_named, place_named}

-- the fact names an atom of a declared predicate with objects of its types
pub record IsAtom (s : Scope) (f : Form) : Type 0 where
  pub predicate : ℕ
  pub objects : List ℕ
  pub shape : Shape
  pub declared : slice_get (signature_in s).predicates predicate ≡ Some shape
  pub named : atom_named s f ≡ Some (ground predicate objects)
  pub typed : AllMayStand (signature_in s) [] shape.arguments (map Object objects)

-- the entry names a place of the signature, and an object of the function's result type
pub record IsValue (s : Scope) (e : Form) : Type 0 where
  pub function : ℕ
  pub objects : List ℕ
  pub shape : Shape
  pub value : ℕ
  pub declared : slice_get (signature_in s).functions function ≡ Some shape
  pub place_is : place_named s (first_in e) ≡ Some (place function objects)
  pub value_is : object_named s (second_in e) ≡ Some value
  pub typed : AreOfTypes (signature_in s) shape.arguments objects
  pub fits : IsIn value (objects_of (signature_in s) shape.result)

-- a world that facts may be put into: of the declared signature, which is valid, and with counts within its arrays
pub record IsReady (s : Scope) (w : DWorld) : Type 0 where
  pub valid : IsValidSignature (signature_in s)
  pub of_signature : IsWorldOf (signature_in s) w
  pub counts : WorldCounts w

-- the place that the entry names has the value that it names
abbrev pub HasItsValue : Scope → World → Form → Type 0
HasItsValue s w e = (f : ℕ) (ds : List ℕ) (d : ℕ) → place_named s (first_in e) ≡ Some (place f ds) → object_named s (second_in e) ≡ Some d → w.value f ds ≡ d
