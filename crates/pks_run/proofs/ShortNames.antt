-- The names of an input that was read: each is short.
use Rattle.std.proofs.Common.{◌≡◌, ◌-◌, ℕ, true, List, [], ◌++◌, length, inl, inr, sym, ◌∙◌, subst, true≢false, arith}
use Rattle.std.specs.Prelude.{codes, nat_lt}
use Rattle.std.specs.Map.{keys_of}
use Rattle.std.proofs.lemmas.Bool.{le-leb}
use Rattle.std.proofs.lemmas.Bool.Decides.{leb_tells}
use Rattle.pks_terms.specs.Sets.{Each}
use Rattle.pks_terms.specs.Talk.{is_short}
use Rattle.pks_terms.specs.Printed.{Text}
use Rattle.pks_terms.specs.Answers.{File}
use Rattle.pks_text.specs.Forms.{Form, Forms, no_forms, form, place_of}
use Rattle.pks_reader_shape.specs.Walk.{count}
use Rattle.pks_reader_shape.specs.Files.{Fault, number_of}
use Rattle.pks_reader_names.specs.Tables.{Table, declare, too_long, twice}
use Rattle.pks_reader_names.specs.Parts.{behind_head, section, first_forms}
use Rattle.pks_reader_names.specs.Declarations.{Types, name_of, first_in, no_faults, name_faults, table_from, entries_faults, past_names, type_faults, type_named, objects_with, objects_from, objects_faults, objects_faults_in, most_objects, objects_section}
use Rattle.pks_reader_names.specs.Meaning.{scope_of}
use Rattle.pks_reader_problem.specs.Stated.{named_by}
use Rattle.pks_reader.specs.Files.{faults_by_section}
use Rattle.pks_laws_reader.specs.Facts.{EachForm}
use Rattle.pks_laws_reader.proofs.Numbers.{nil_parts, when}
use Rattle.pks_laws_reader.proofs.Tabled.{each_key}
use Rattle.pks_agent.specs.Along.{AreShort}
use Rattle.pks_reader.specs.Inputs.{IsRead}

abbrev pub IsShort : List ℕ → Type 0
IsShort name = is_short name ≡ true

short_name : (name : List ℕ) (at : ℕ) → too_long name at ≡ [] → IsShort name
short_name name at e = elim (leb_tells (length name) 64) [
  | inl few ↦ few.0
  | inr many ↦ absurd (true≢false (sym (le-leb 65 (length name) (omega (arith, many.1))) ∙ when (at, 200) (nat_lt 64 (length name)) e))
]

pub entries_short : {X : Type 0} (named : Form → Form) (said : Form → X) (faults : Form → List Fault) (t : Table X) (fs : Forms) → Each IsShort (keys_of t) → entries_faults named said faults t fs ≡ []
    → Each IsShort (keys_of (table_from named said t fs)) × EachForm (λ f. IsShort (name_of (named f))) fs
entries_short named said faults t no_forms a e = (a, tt)
entries_short named said faults t (form f fs) a e =
    let name = name_of (named f) in
    let both = nil_parts (name_faults t (named f) ++ faults f) (entries_faults named said faults (declare t name (said f)) fs) e in
    let own = nil_parts (name_faults t (named f)) (faults f) both.0 in
    let long = nil_parts (too_long name (place_of (named f))) (twice t name (place_of (named f))) own.0 in
    let short = short_name name (place_of (named f)) long.0 in
    let rest = entries_short named said faults (declare t name (said f)) fs (each_key IsShort t name (said f) a short) both.1 in
    (rest.0, (short, rest.1))

objects_short : (types : Types) (n : ℕ) (t : Table ℕ) (fs : Forms) → Each IsShort (keys_of t) → objects_faults types n t fs ≡ [] → Each IsShort (keys_of (objects_from types n t fs))
objects_short types n t no_forms a e = a
objects_short types n t (form f fs) a e =
    let said : Form → ℕ = λ g. type_named types (first_in f) in
    let both = nil_parts (objects_faults_in types n t f) (objects_faults types (n - count (behind_head f)) (objects_with types n t f) fs) e in
    let own = nil_parts (type_faults types (first_in f)) (entries_faults first_in said no_faults t (first_forms n (behind_head f)) ++ past_names (objects_with types n t f) first_in n (behind_head f)) both.0 in
    let entries = nil_parts (entries_faults first_in said no_faults t (first_forms n (behind_head f))) (past_names (objects_with types n t f) first_in n (behind_head f)) own.1 in
    objects_short types (n - count (behind_head f)) (objects_with types n t f) fs (entries_short first_in said no_faults t (first_forms n (behind_head f)) a entries.0).0 both.1

pub read_short : (input : Text) (f : File) → IsRead input f → AreShort f.names
unfolding faults_by_section objects_section scope_of named_by
read_short input f r =
    let s = r.states in
    let version = number_of s.version in
    let domain = behind_head s.domain in
    let short = objects_short (scope_of version domain).types (most_objects version) [] (section (codes "objects") domain) tt s.faultless.1.0 in
    let named : Each IsShort r.named.objects = subst (λ n. Each IsShort n.objects) (sym s.named) short in
    subst (λ (g : File). AreShort g.names) (sym r.gives) named
