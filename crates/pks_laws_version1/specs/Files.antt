-- How a text reads by the rules of the first version. A type is a name alone, and there are at most 64 objects. Codes with one text in both versions are those of the reader over what is so declared: there no type has a parent, so a type fits itself alone.
use Rattle.std.specs.Prelude.{◌≡◌, ◌≤◌, ◌<◌, ℕ, List, [], ◌∷◌, ◌++◌, length, Option, Some, None, slice_get, codes}
use Rattle.pks_terms.specs.declared.codes.TheConstants.{NOT_ASCII, TOO_MANY_BYTES, WORLD_MISSING}
use Rattle.pks_terms.specs.declared.limits.TheConstants.{MOST_BYTES}
use Rattle.pks_terms.specs.Sets.{Each}
use Rattle.pks_terms.specs.Worlds.{World}
use Rattle.pks_terms.specs.Printed.{Text}
use Rattle.pks_terms.specs.Problems.{Problem}
use Rattle.pks_terms.specs.Answers.{Stated, NoWorld, BadWorld, GivenWorld, File, Reading, ReadAs, Faulty}
use Rattle.pks_text.specs.Forms.{Form, Forms, no_forms, form, list_of}
use Rattle.pks_text.specs.Faults.{IsFirstFault}
use Rattle.pks_text.specs.declared.tree.FormFault.{FormFault}
use Rattle.pks_reader_shape.specs.Files.{Fault, or_else}
use Rattle.pks_reader_names.specs.Tables.{declare}
use Rattle.pks_reader_names.specs.Scopes.{Scope}
use Rattle.pks_reader_names.specs.Parts.{behind_head, section, first_forms}
use Rattle.pks_reader_names.specs.Sentences.{problem_faults}
use Rattle.pks_reader_names.specs.Declarations.{Types, first_in, name_of, name_faults, past_names, objects_from, predicates_in, functions_in, predicates_section, functions_section, actions_section}
use Rattle.pks_reader_problem.specs.Stated.{Named, problem_by, named_by}
use Rattle.pks_reader_world.specs.Stated.{contents_fault, parts_at, place_at, world_in}
use Rattle.pks_reader.specs.Files.{IsFirstOf}
use Rattle.pks_reader.specs.Texts.{coded, Reads as Spells}
use Rattle.pks_reader.specs.Inputs as now
use Rattle.pks_reader.specs.Inputs.{line_and_column, first_high}
use Rattle.pks_laws_version1.specs.Grammar.{IsFile}
use Rattle.pks_laws_version1.specs.Walk.{shape_fault, world_shape_fault}
use Rattle.pks_laws_version1.specs.Codes.{objects_section}

-- ---- what is declared

-- each type is a name alone
abbrev pub types_from : Types → Forms → Types
types_from types no_forms = types
types_from types (form f fs) = types_from (declare types (name_of (first_in f)) None) fs

-- the faults of their names
abbrev pub types_faults : Types → Forms → List Fault
types_faults types no_forms = []
types_faults types (form f fs) = name_faults types (first_in f) ++ types_faults (declare types (name_of (first_in f)) None) fs

-- at most 16 types
abbrev pub types_in : Forms → Types
types_in fs = types_from [] (first_forms 16 fs)

-- the faults of the section
abbrev pub types_section : Forms → List Fault
types_section fs = types_faults [] (first_forms 16 fs) ++ past_names (types_in fs) first_in 16 fs

-- what a domain declares, by its sections
unfoldable pub scope_of : Forms → Scope
scope_of domain =
    let types = types_in (section (codes "types") domain) in
    record {
      types = types;
      objects = objects_from types 64 [] (section (codes "objects") domain);
      predicates = predicates_in types (section (codes "predicates") domain);
      functions = functions_in types (section (codes "functions") domain);
      parameters = [];
    }

-- ---- forms

-- the forms are a file of the grammar, with this domain and this problem
pub record IsFileOf (fs : List Form) (d p : Form) : Type 0 where
  pub file : IsFile fs
  pub domain : slice_get fs 1 ≡ Some d
  pub problem : slice_get fs 2 ≡ Some p

-- all faults of meaning, section by section as they stand in the text
abbrev pub faults_by_section : Forms → Forms → List (List Fault)
faults_by_section domain problem =
    let s = scope_of domain in
    types_section (section (codes "types") domain)
    ∷ objects_section s.types (section (codes "objects") domain)
    ∷ predicates_section s.types (section (codes "predicates") domain)
    ∷ functions_section (record s { functions = [] }) (section (codes "functions") domain)
    ∷ actions_section s domain
    ∷ problem_faults s problem
    ∷ []

-- the forms of a text of so many bytes are refused with this fault, which is one of shape, or, where they are a file, the first of meaning
pub data AreRefused (end : ℕ) (fs : List Form) (fault : Fault) : Type 0 where
  by_shape : shape_fault end fs ≡ Some fault → AreRefused end fs fault
  by_meaning : (d p : Form) → IsFileOf fs d p → IsFirstOf fault (faults_by_section (behind_head d) (behind_head p)) → AreRefused end fs fault

-- the forms are a file without faults, and state the problem with these names and places
pub record FormsState (fs : List Form) (p : Problem) (n : Named) : Type 0 where
  pub domain : Form
  pub problem : Form
  pub file : IsFileOf fs domain problem
  pub faultless : Each (λ faults. faults ≡ []) (faults_by_section (behind_head domain) (behind_head problem))
  pub says : p ≡ problem_by 1 (scope_of (behind_head domain)) (behind_head domain) (behind_head problem)
  pub named : n ≡ named_by (scope_of (behind_head domain)) (behind_head domain) problem

-- ---- the world

-- what the domain of the file declares
abbrev pub declared_by : List Form → Scope
declared_by fs = scope_of (parts_at fs 1)

-- the first fault of a file's world: that there is none, its shape, its facts
abbrev pub world_fault : List Form → Option Fault
world_fault fs = elim (slice_get fs 3) [ None ↦ Some (place_at fs 2, WORLD_MISSING) | Some w ↦ or_else (world_shape_fault fs) (contents_fault (declared_by fs) w) ]

-- the world of the file
abbrev pub world_by : List Form → World
world_by fs = world_in (declared_by fs) (parts_at fs 3)

-- the world, or its first fault, or that there is none
abbrev pub world_stated : Text → List Form → Option Form → Option Fault → Stated
world_stated text fs None fault = NoWorld
world_stated text fs (Some w) (Some fault) = BadWorld (line_and_column text fault.0) fault.1
world_stated text fs (Some w) None = GivenWorld (world_by fs)

-- ---- texts

-- the text is refused with this fault: the first of the text, or, where it has none, that of its forms
pub data IsRefused (text : Text) (fault : Fault) : Type 0 where
  by_text : (first : FormFault) → IsFirstFault text first → coded first ≡ Some fault → IsRefused text fault
  by_forms : (fs : Forms) → Spells text fs → AreRefused (length text) (list_of fs) fault → IsRefused text fault

-- the first fault, at a byte: too many bytes, a byte above 127, or one of text, shape or meaning
pub data IsFaulty (text : Text) : Fault → Type 0 where
  too_long : MOST_BYTES < length text → IsFaulty text (0, TOO_MANY_BYTES)
  too_high : length text ≤ MOST_BYTES → (at : ℕ) → first_high text ≡ Some at → IsFaulty text (at, NOT_ASCII)
  refused : length text ≤ MOST_BYTES → first_high text ≡ None → (fault : Fault) → IsRefused text fault → IsFaulty text fault

-- the file, by its forms, and by the problem and the names that they state
abbrev pub file_in : Text → List Form → Problem → Named → File
file_in text fs p n = record (now.file_in text fs p n) { world = world_stated text fs (slice_get fs 3) (world_fault fs) }

-- the text is a file without faults up to meaning, and states this
pub record IsRead (text : Text) (f : File) : Type 0 where
  pub short : length text ≤ MOST_BYTES
  pub low : first_high text ≡ None
  pub forms : Forms
  pub spelled : Spells text forms
  pub problem : Problem
  pub named : Named
  pub states : FormsState (list_of forms) problem named
  pub gives : f ≡ file_in text (list_of forms) problem named

-- how the text reads
abbrev pub Reads : Text → Reading → Type 0
Reads text (ReadAs f) = IsRead text f
Reads text (Faulty at code) = (byte : ℕ) × IsFaulty text (byte, code) × (at ≡ line_and_column text byte)
