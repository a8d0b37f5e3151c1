-- Each text reads as a file or has a first fault.
use Rattle.std.proofs.Common.{◌≡◌, ◌⊎◌, inl, inr, ⊎_elim, ◌∙◌, ◌||◌, ◌≤◌, ℕ, false, codes, List, [], ◌∷◌, Option, Some, None, length, slice_get, refl, sym, ap, subst}
use Rattle.std.proofs.lemmas.Bool.{cases_lt}
use Rattle.std.specs.List.{list_any}
use Rattle.std.specs.Option.{option_map_or}
use Rattle.pks_terms.specs.Worlds.{World}
use Rattle.pks_terms.specs.Syntax.{Atom}
use Rattle.pks_terms.specs.Printed.{Text}
use Rattle.pks_terms.specs.Problems.{Problem}
use Rattle.pks_terms.specs.Valid.{IsValid}
use Rattle.pks_terms.specs.Answers.{NoWorld, BadWorld, GivenWorld, File, Reading, ReadAs, Faulty}
use Rattle.pks_text.specs.Forms.{Form, Forms, no_forms, form, list_of, Mark, mark_end}
use Rattle.pks_text.specs.Faults.{StopsAfter, IsFirstFault}
use Rattle.pks_text.specs.declared.tree.FormFault.{FormFault}
use Rattle.pks_text.specs.declared.tree.FormFault.TheVariants.{BadByte, Unclosed, Unopened, TooDeep, Memory}
use Rattle.pks_text.proofs.Turning.{text_turns}
use Rattle.pks_reader_shape.specs.Files.{Fault, number_of, version_of, shape_fault}
use Rattle.pks_reader_shape.specs.Language.{IsFile}
use Rattle.pks_reader_shape.specs.declared.grammar.Version.{Version}
use Rattle.pks_reader_shape.proofs.Shaping.{file_of}
use Rattle.pks_reader_names.specs.Scopes.{Scope}
use Rattle.pks_reader_names.specs.Parts.{behind_head, section}
use Rattle.pks_reader_problem.specs.Stated.{Named, problem_in, named_in}
use Rattle.pks_laws_reader.proofs.Whole.{valid_problem}
use Rattle.pks_world.specs.Contents.{ground, atom_eq}
use Rattle.pks_reader_world.specs.Naming.{atom_named}
use Rattle.pks_reader_world.specs.Stated.{is_listed, parts_at, declared_by, world_in, world_fault, world_by}
use Rattle.pks_reader.specs.Files.{IsFileOf, faults_by_section, AreRefused, by_shape, by_meaning, FormsState}
use Rattle.pks_reader.specs.Texts.{Reads as Spells, coded, by_text, by_forms}
use Rattle.pks_reader.specs.Inputs.{line_and_column, first_high, world_stated, file_in, IsFaulty, too_long, too_high, refused, IsRead, Reads}
use Rattle.pks_reader.proofs.Firsts.{first_fault, first_is, no_faults, faultless, meaning_first}
use Rattle.pks_reader.proofs.Parted.{of_version}
use Rattle.pks_laws_explain.proofs.Broken.{HasAtoms}

-- ---- forms

-- the forms are refused with a fault, or state a problem
abbrev FormsTurn : ℕ → List Form → Type 0
FormsTurn end fs = ((fault : Fault) × AreRefused end fs fault) ⊎ ((p : Problem) × (n : Named) × FormsState fs p n)

parts_of : (fs : List Form) → IsFile fs → (d p : Form) × IsFileOf fs (version_of fs) d p
parts_of [] is = absurd is
parts_of (f ∷ []) is = absurd is
parts_of (f ∷ d ∷ []) is = absurd is
parts_of (f ∷ d ∷ p ∷ rest) is = (d, p, record { file = is; version = refl; domain = refl; problem = refl })

file_turns : (end : ℕ) (fs : List Form) (v : Version) (d p : Form) → IsFileOf fs v d p → FormsTurn end fs
file_turns end fs v d p file = by_first (first_fault (faults_by_section (number_of v) (behind_head d) (behind_head p))) refl
  where
    by_first : (o : Option Fault) → first_fault (faults_by_section (number_of v) (behind_head d) (behind_head p)) ≡ o → FormsTurn end fs
    by_first (Some fault) e = inl (fault, by_meaning v d p file (first_is (faults_by_section (number_of v) (behind_head d) (behind_head p)) fault e))
    by_first None e = inr (
      problem_in (number_of v) (behind_head d) (behind_head p),
      named_in (number_of v) (behind_head d) p,
      record { version = v; domain = d; problem = p; file = file; faultless = no_faults (faults_by_section (number_of v) (behind_head d) (behind_head p)) e; says = refl; named = refl },
    )

forms_turn : (end : ℕ) (fs : List Form) → FormsTurn end fs
forms_turn end fs = by_shape_fault (shape_fault end fs) refl
  where
    by_shape_fault : (o : Option Fault) → shape_fault end fs ≡ o → FormsTurn end fs
    by_shape_fault (Some fault) e = inl (fault, by_shape e)
    by_shape_fault None e = let parts = parts_of fs (file_of end fs e) in file_turns end fs (version_of fs) parts.0 parts.1 parts.2

-- ---- texts

never : (ps text : List ℕ) (at : ℕ) (ms : List Mark) → StopsAfter ps text at ms Memory → ⊥
never ps text at [] stops = stops
never ps text at (m ∷ ms) stops = never stops.1 stops.0 (mark_end m) ms stops.4

coded_of : (text : Text) (first : FormFault) → IsFirstFault text first → (fault : Fault) × (coded first ≡ Some fault)
coded_of text (BadByte at) is = ((at, 110), refl)
coded_of text (Unclosed at) is = ((at, 111), refl)
coded_of text (Unopened at) is = ((at, 112), refl)
coded_of text (TooDeep at) is = ((at, 113), refl)
coded_of text Memory is = absurd (never [] text 0 is.0 is.1)

module _ (text : Text) where
  faulty : (fault : Fault) → IsFaulty text fault → (x : Reading) × Reads text x
  faulty fault is = (Faulty (line_and_column text fault.0) fault.1, (fault.0, is, refl))

  module _ (short : length text ≤ 262144) (low : first_high text ≡ None) where
    read_forms : (fs : Forms) → Spells text fs → FormsTurn (length text) (list_of fs) → (x : Reading) × Reads text x
    read_forms fs spelled (inl is) = faulty is.0 (refused short low is.0 (by_forms fs spelled is.1))
    read_forms fs spelled (inr stated) = (
      ReadAs (file_in text (list_of fs) stated.0 stated.1),
      record { short = short; low = low; forms = fs; spelled = spelled; problem = stated.0; named = stated.1; states = stated.2; gives = refl },
    )

    read_low : (x : Reading) × Reads text x
    read_low =
        ⊎_elim
        (λ spelled. read_forms spelled.0 (record { spelled = spelled.1; faultless = spelled.2 }) (forms_turn (length text) (list_of spelled.0)))
        (λ first. let code = coded_of text first.0 first.1 in faulty code.0 (refused short low code.0 (by_text first.0 first.1 code.1)))
        (text_turns text)

  read_short : length text ≤ 262144 → (o : Option ℕ) → first_high text ≡ o → (x : Reading) × Reads text x
  read_short short (Some at) e = faulty (at, 101) (too_high short at e)
  read_short short None e = read_low short e

  -- the text reads as a file or has a first fault
  pub reads : (x : Reading) × Reads text x
  reads = ⊎_elim (λ long. faulty (0, 100) (too_long long)) (λ short. read_short short (first_high text) refl) (cases_lt 262144 (length text))

-- ---- what a text that reads states

states_valid : (fs : List Form) (p : Problem) (n : Named) → FormsState fs p n → IsValid p
states_valid fs p n s =
    let is = of_version fs s.version s.domain s.problem s.file in
    let none = meaning_first (number_of s.version) (behind_head s.domain) (behind_head s.problem) ∙ faultless (faults_by_section (number_of s.version) (behind_head s.domain) (behind_head s.problem)) s.faultless in
    subst IsValid (sym s.says) (valid_problem s.version s.domain s.problem is.0 is.1 none)

pub read_valid : (text : Text) (f : File) → IsRead text f → IsValid f.problem
read_valid text f r = subst (λ (g : File). IsValid g.problem) (sym r.gives) (states_valid (list_of r.forms) r.problem r.named r.states)

-- ---- worlds

abbrev with_atom : Option Atom → List Atom → List Atom
with_atom None atoms = atoms
with_atom (Some a) atoms = a ∷ atoms

abbrev atoms_in : Scope → Forms → List Atom
atoms_in s no_forms = []
atoms_in s (form f fs) = with_atom (atom_named s f) (atoms_in s fs)

listed_as : (s : Scope) (fs : Forms) (a : Atom) → is_listed s fs a ≡ list_any (λ b. atom_eq b a) (atoms_in s fs)
listed_as s no_forms a = refl
listed_as s (form f fs) a = by_atom (atom_named s f) (listed_as s fs a)
  where
    by_atom : (o : Option Atom) → is_listed s fs a ≡ list_any (λ b. atom_eq b a) (atoms_in s fs) → (option_map_or (λ b. atom_eq b a) o false || is_listed s fs a) ≡ list_any (λ b. atom_eq b a) (with_atom o (atoms_in s fs))
    by_atom None later = later
    by_atom (Some b) later = ap (λ c. atom_eq b a || c) later

-- the true atoms of the world of a file are those that it lists
file_atoms : (fs : List Form) → (atoms : List Atom) × HasAtoms (world_by fs) atoms
unfolding world_by world_in
file_atoms fs =
    let facts : Forms = section (codes "true") (parts_at fs 3) in
    (atoms_in (declared_by fs) facts, record { all = λ q ds. listed_as (declared_by fs) facts (ground q ds) })

-- in the world of a file finitely many atoms are true
stated_atoms : (text : Text) (fs : List Form) (o : Option Form) (fault : Option Fault) (w : World) → world_stated text fs o fault ≡ GivenWorld w → (atoms : List Atom) × HasAtoms w atoms
stated_atoms text fs None fault w e = absurd (no_given e)
  where
    no_given : NoWorld ≡ GivenWorld w → ⊥
    no_given e = cc
stated_atoms text fs (Some f) (Some fault) w e = absurd (bad_given e)
  where
    bad_given : BadWorld (line_and_column text fault.0) fault.1 ≡ GivenWorld w → ⊥
    bad_given e = cc
stated_atoms text fs (Some f) None w e = let atoms = file_atoms fs in (atoms.0, subst (λ v. HasAtoms v atoms.0) (same e) atoms.1)
  where
    same : GivenWorld (world_by fs) ≡ GivenWorld w → world_by fs ≡ w
    same e = cc

pub read_world : (text : Text) (f : File) → IsRead text f → (w : World) → f.world ≡ GivenWorld w → (atoms : List Atom) × HasAtoms w atoms
read_world text f r w e = stated_atoms text (list_of r.forms) (slice_get (list_of r.forms) 3) (world_fault (list_of r.forms)) w (sym (ap (λ (g : File). g.world) r.gives) ∙ e)
