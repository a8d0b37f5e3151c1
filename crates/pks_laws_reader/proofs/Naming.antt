-- Names are spelled as names are, and none is given twice.
use Rattle.std.proofs.Common.{◌≡◌, ℕ, ◌==◌, Bool, true, false, cond, List, [], ◌∷◌, length, map, None, refl, sym, ap, ◌∙◌, subst, bytes_eq}
use Rattle.std.specs.Prelude.{codes}
use Rattle.std.specs.Map.{keys_of}
use Rattle.std.proofs.lemmas.Bool.{true≢false, false≢true, eqb-true}
use Rattle.pks_terms.specs.ValidProblems.{is_name, AreDifferent, AreNames}
use Rattle.pks_terms.proofs.ListLaws.{each_in}
use Rattle.pks_text.specs.Forms.{Form, Word, Listing, Forms, no_forms, form, place_of}
use Rattle.pks_reader_shape.specs.declared.grammar.Version.{Version}
use Rattle.pks_reader_shape.specs.declared.grammar.Version.TheVariants.{First, Second}
use Rattle.pks_reader_shape.specs.declared.grammar.Sort.TheVariants as sort
use Rattle.pks_reader_shape.specs.declared.grammar.Part.{Part}
use Rattle.pks_reader_shape.specs.declared.grammar.Part.TheVariants.{One, Many}
use Rattle.pks_reader_shape.specs.Grammar.{lists, is_allowed}
use Rattle.pks_reader_shape.specs.Files.{number_of}
use Rattle.pks_reader_shape.specs.Language.{IsOf, Matches, one}
use Rattle.pks_reader_names.specs.Tables.{Table}
use Rattle.pks_reader_names.specs.Scopes.{Scope, name_in}
use Rattle.pks_reader_names.specs.Parts.{text_of, behind, behind_head, section, first_forms, each}
use Rattle.pks_reader_names.specs.Declarations.{first_or, parent_named, type_named, name_of, entries_faults, first_in, second_in, most_objects, section_table, predicate_in, barred_faults, predicates_section, function_in, within, action_faults, nothing, actions_among, actions_section}
use Rattle.pks_reader_names.specs.Meaning.{scope_of}
use Rattle.pks_reader_declared.specs.FirstFault.{declarations_fault, meaning_fault}
use Rattle.pks_reader_problem.specs.Stated.{all, schema_in, stated_in, problem_in, problem_by, named_in, named_by}
use Rattle.pks_reader_problem.proofs.Walked.{first_all}
use Rattle.pks_laws_reader.specs.Facts.{EachForm, AreNamed}
use Rattle.pks_laws_reader.proofs.Shapes.{each_of, of_sort, of_lists}
use Rattle.pks_laws_reader.proofs.Numbers.{when, keys_length, each_form, each_faultless, each_all}
use Rattle.pks_laws_reader.proofs.Sections.{action_parts, action_is, domain_is, types_are, objects_are, predicates_are, functions_are, actions_are}
use Rattle.pks_laws_reader.proofs.Tabled.{every_form, each_of_first, entries_length, AreKeys, keys_declared, each_name, names_kept, each_type, each_object}
use Rattle.pks_laws_reader.proofs.Whole.{all_length, unrefused}

-- ---- spelling

-- a word that is a name declares a name
name_kept : (text : List ℕ) → is_name text ≡ true → name_in text ≡ text
name_kept [] e = refl
name_kept (b ∷ bytes) e = by_test (b == 63) (λ q. eqb-true b 63 q)
  where
    by_test : (c : Bool) → (c ≡ true → b ≡ 63) → cond c bytes (b ∷ bytes) ≡ b ∷ bytes
    by_test true same = absurd (false≢true (ap (λ (x : ℕ). is_name (x ∷ bytes)) (sym (same refl)) ∙ e))
    by_test false same = refl

abbrev IsNamed : Form → Type 0
IsNamed f = is_name (name_of f) ≡ true

word_named : (text : List ℕ) (at : ℕ) → is_name text ≡ true → IsNamed (Word text at)
word_named text at is = ap is_name (name_kept text is) ∙ is

named : (v : Version) (f : Form) → IsOf v sort.Name f → IsNamed f
unfolding lists is_allowed
named v = of_sort v IsNamed sort.Name word_named tt tt

-- the first of some parts is a name
first_named : (v : Version) (ps : List Part) (parts : Forms) (at end : ℕ) → Matches v (One sort.Name ∷ ps) parts → IsNamed (first_in (Listing parts at end))
first_named v ps _ at end (one _ _ f fs is m) = named v f is

kind_named : (v : Version) (f : Form) → IsOf v sort.Kind f → IsNamed (first_in f)
unfolding lists is_allowed
kind_named First = of_sort First (λ f. IsNamed (first_in f)) sort.Kind word_named tt tt
kind_named Second = of_sort Second (λ f. IsNamed (first_in f)) sort.Kind word_named tt (λ parts at end free m. first_named Second (One sort.Name ∷ []) parts at end m)

entry_named : (v : Version) (f : Form) → IsOf v sort.Entry f → IsNamed (first_in f)
unfolding lists is_allowed
entry_named v = of_lists v (λ f. IsNamed (first_in f)) sort.Entry (λ text. refl) tt (λ parts at end free m. first_named v (Many sort.Name ∷ []) parts at end m)

function_named : (v : Version) (f : Form) → IsOf v sort.Function f → IsNamed (first_in f)
unfolding lists is_allowed
function_named v = of_lists v (λ f. IsNamed (first_in f)) sort.Function (λ text. refl) tt (λ parts at end free m. first_named v (One sort.Name ∷ Many sort.Name ∷ []) parts at end m)

-- the names behind an entry's
objects_named : (v : Version) (f : Form) → IsOf v sort.Entry f → EachForm (λ g. IsNamed (first_in g)) (behind_head f)
unfolding lists is_allowed
objects_named v = of_lists v (λ f. EachForm (λ g. IsNamed (first_in g)) (behind_head f)) sort.Entry (λ text. refl) tt (λ parts at end free m. by_parts parts m)
  where
    by_parts : (parts : Forms) → Matches v (One sort.Name ∷ Many sort.Name ∷ []) parts → EachForm (λ g. IsNamed (first_in g)) (behind parts)
    by_parts _ (one _ _ f fs is m) = each_form (IsOf v sort.Name) (λ g. IsNamed (first_in g)) (of_sort v (λ g. IsNamed (first_in g)) sort.Name word_named tt tt) fs (each_of v sort.Name fs m)

-- an action's name is as it is written
action_named : (v : Version) (f : Form) → IsOf v sort.Action f → (is_name (text_of (second_in f)) ≡ true) × (name_of (second_in f) ≡ text_of (second_in f))
unfolding lists is_allowed
action_named v f is = by_parts (behind_head f) (action_is v f is)
  where
    by_parts : (fs : Forms) → Matches v action_parts fs → (is_name (text_of (first_or f fs)) ≡ true) × (name_of (first_or f fs) ≡ text_of (first_or f fs))
    by_parts _ (one _ _ g _ is m) = of_sort v (λ g. (is_name (text_of g) ≡ true) × (name_of g ≡ text_of g)) sort.Name (λ text at allowed. (allowed, name_kept text allowed)) tt tt g is

-- ---- all names

all_alike : {X : Type 0} (meant other : Form → X) (fs : Forms) → EachForm (λ f. meant f ≡ other f) fs → all meant fs ≡ all other fs
all_alike meant other no_forms same = refl
all_alike meant other (form f fs) same = λ i. same.0 i ∷ all_alike meant other fs same.1 i

same_counts : (s : Scope) (fs : Forms) → map (λ names. length names) (all (λ f. keys_of (within s (behind_head f)).parameters) fs) ≡ map (λ x. length x.parameters) (all (λ f. schema_in s (behind_head f)) fs)
unfolding stated_in
same_counts s no_forms = refl
same_counts s (form f fs) = λ i. (keys_length (within s (behind_head f)).parameters ∙ sym (entries_length (within s (behind_head f)).parameters)) i ∷ same_counts s fs i

abbrev IsName : List ℕ → Type 0
IsName text = is_name text ≡ true

are_names : {X : Type 0} (t : Table X) (n : ℕ) → n ≡ length t → AreKeys IsName t → AreNames n (keys_of t)
are_names t n same are = record { counted = keys_length t ∙ sym same; spelled = are.0; different = are.1 }

pub problem_named : (v : Version) (d p : Form) → IsOf v sort.Domain d → meaning_fault (number_of v) (behind_head d) (behind_head p) ≡ None → AreNamed (problem_in (number_of v) (behind_head d) (behind_head p)) (named_in (number_of v) (behind_head d) p)
unfolding problem_by named_by scope_of meaning_fault declarations_fault actions_section predicates_section
problem_named v d p is e =
    let domain = behind_head d in
    let s = scope_of (number_of v) domain in
    let m = domain_is v d is in
    let types = section (codes "types") domain in
    let objects = section (codes "objects") domain in
    let predicates = section (codes "predicates") domain in
    let functions = section (codes "functions") domain in
    let actions = actions_among domain in
    let are = actions_are v domain m in
    let unbarred : each barred_faults predicates ≡ [] = search unrefused in
    let apart : entries_faults second_in nothing (λ f. action_faults s (behind_head f)) [] (first_forms 64 actions) ≡ [] = search unrefused in
    let whole : first_forms 64 actions ≡ actions = first_all (section_table second_in 64 nothing actions) second_in 64 actions (search unrefused) in
    record {
      types = are_names s.types (length s.types) refl (each_type (AreKeys IsName) [] (first_forms 16 types) (tt, tt)
          (each_of_first _ 16 types (each_form _ _ (λ f is t. keys_declared IsName t (name_of (first_in f)) (parent_named t (behind_head f)) (kind_named v f is)) types (types_are v domain m))));
      objects = are_names s.objects _ (entries_length s.objects) (each_object (AreKeys IsName) s.types (most_objects (number_of v)) [] objects (tt, tt)
          (each_form _ _ (λ f is. each_form _ _ (λ g also t. keys_declared IsName t (name_of (first_in g)) (type_named s.types (first_in f)) also) (behind_head f) (objects_named v f is)) objects (objects_are v domain m)));
      predicates = are_names s.predicates _ (entries_length s.predicates) (each_name IsName first_in (predicate_in s.types) _ (each_of_first _ 32 predicates (each_form _ _ (entry_named v) predicates (predicates_are v domain m))));
      none_is_not = λ i. true≢false (each_in (λ n. bytes_eq n (codes "not") ≡ false) (keys_of s.predicates) (codes "not") (each_name (λ n. bytes_eq n (codes "not") ≡ false) first_in (predicate_in s.types) _
          (each_of_first _ 32 predicates (each_form _ _ (λ f none. when (place_of (first_in f), 201) _ none) predicates (each_faultless barred_faults predicates unbarred)))).0 i);
      functions = are_names s.functions _ (entries_length s.functions) (each_name IsName first_in (function_in s.types) _ (each_of_first _ 32 functions (each_form _ _ (function_named v) functions (functions_are v domain m))));
      actions = record {
        counted = all_length (λ f. text_of (second_in f)) actions ∙ sym (all_length (λ f. schema_in s (behind_head f)) actions);
        spelled = each_all _ IsName (λ f. text_of (second_in f)) (λ f is. (action_named v f is).0) actions are;
        different = subst AreDifferent (names_kept second_in nothing (λ f. action_faults s (behind_head f)) [] (first_forms 64 actions) apart ∙ ap (all (λ f. name_of (second_in f))) whole
            ∙ all_alike (λ f. name_of (second_in f)) (λ f. text_of (second_in f)) actions (each_form _ _ (λ f is. (action_named v f is).1) actions are)) (each_name (λ n. Unit {0}) second_in nothing _ (every_form _ (λ f. tt) (first_forms 64 actions))).1;
      };
      parameters = same_counts s actions;
    }
