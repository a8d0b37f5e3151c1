-- The signature that declarations without a fault give is valid.
use Rattle.std.proofs.Common.{◌≡◌, inl, inr, ℕ, zero, suc, ◌+◌, ◌≤◌, ◌<◌, ◌==◌, true, false, ◌||◌, unwrap_or, cond, List, [], ◌∷◌, length, Option, Some, refl, sym, ◌∙◌, subst, arith, slice_get}
use Rattle.std.specs.Prelude.{codes}
use Rattle.std.specs.Option.{option_map_or}
use Rattle.std.proofs.lemmas.Bool.{false≢true, or_cases}
use Rattle.pks_terms.specs.Sets.{Each, IsIn}
use Rattle.pks_terms.specs.Signatures.{Shape, Signature, fits_type, fits_within, parent_of, object_is_of, objects_of}
use Rattle.pks_terms.specs.Valid.{IsValidSignature}
use Rattle.pks_terms.proofs.ListLaws.{each_weaker}
use Rattle.pks_terms.proofs.Types.{are_objects_of}
use Rattle.pks_text.specs.Forms.{Form, Listing, Forms, form, place_of}
use Rattle.pks_reader_shape.specs.declared.grammar.Version.{Version}
use Rattle.pks_reader_shape.specs.declared.grammar.Sort.TheVariants as sort
use Rattle.pks_reader_shape.specs.declared.grammar.Part.TheVariants.{One, Many}
use Rattle.pks_reader_shape.specs.Grammar.{lists, is_allowed}
use Rattle.pks_reader_shape.specs.Language.{IsOf, Matches, one}
use Rattle.pks_reader_names.specs.Tables.{number_of, entries_of}
use Rattle.pks_reader_names.specs.Scopes.{Scope, signature_in, fits}
use Rattle.pks_reader_names.specs.Parts.{text_of, behind_head, section, first_forms, all_but_last, last_of}
use Rattle.pks_reader_names.specs.Declarations.{Types, type_faults, type_named, first_in, types_in, most_objects, objects_section, predicate_in, predicate_faults, predicates_section, function_in, has_object, empty_faults, function_faults, functions_section, parameter_in, within}
use Rattle.pks_reader_names.specs.Meaning.{scope_of}
use Rattle.pks_reader_problem.specs.Sizes.{IsSmall}
use Rattle.pks_reader_problem.proofs.Few.{scope_small}
use Rattle.pks_laws_reader.specs.Facts.{EachForm, HasShapes}
use Rattle.pks_laws_reader.proofs.Shapes.{of_lists}
use Rattle.pks_laws_reader.proofs.Numbers.{faultless, unless, known, each_got, each_form, each_forms, each_faultless}
use Rattle.pks_laws_reader.proofs.Tabled.{every_form, each_of_first, last_holds, each_but_last, each_said, section_faultless, entries_length, type_within, types_within, types_length, earlier_types, objects_within}

-- ---- shapes

-- the scope before functions are declared
abbrev pub before : Scope → Scope
before s = record s { functions = [] }

fits_before : (s : Scope) (n a b : ℕ) → fits_within (signature_in s) n a b ≡ fits_within (signature_in (before s)) n a b
fits_before s zero a b = refl
fits_before s (suc n) a b = λ i. (a == b) || option_map_or (λ up. fits_before s n up b i) (parent_of (signature_in s) a) false

-- an object that is found
found_object : (s : Scope) (owns : List ℕ) (wanted : ℕ) → has_object s owns wanted ≡ true → (k : ℕ) × (option_map_or (λ own. fits s own wanted) (slice_get owns k) false ≡ true)
found_object s [] wanted e = absurd (false≢true e)
found_object s (own ∷ owns) wanted e = elim (or_cases (fits s own wanted) (has_object s owns wanted) e) [ inl here ↦ (zero, here) | inr later ↦ let r = found_object s owns wanted later in (suc r.0, r.1) ]

-- what a valid signature asks of a predicate, and of a function
abbrev IsPredicate : ℕ → Shape → Type 0
IsPredicate n x = Each (λ a. a < n) x.arguments × (length x.arguments ≤ 3)

abbrev IsFunction : Signature → Shape → Type 0
IsFunction s x = (Each (λ a. a < s.types) x.arguments × (length x.arguments ≤ 2) × (x.result < s.types)) × ((e : ℕ) × IsIn e (objects_of s x.result))

predicate_valid : (types : Types) (f : Form) → predicate_faults types f ≡ [] → IsPredicate (length types) (predicate_in types f)
unfolding predicate_faults predicate_in
predicate_valid types f e = (types_within types 3 (behind_head f) (each_faultless (type_faults types) (behind_head f) (search faultless)), types_length types 3 (behind_head f))

-- the result type has an object
result_object : (s : Scope) (g : Form) → type_faults s.types g ≡ [] → empty_faults (before s) (Some g) ≡ [] → (e : ℕ) × IsIn e (objects_of (signature_in s) (type_named s.types g))
unfolding object_is_of fits_type
result_object s g typed e =
    let r = known (place_of g) 203 (number_of s.types (text_of g)) (search faultless) in
    let o = found_object (before s) (entries_of s.objects) r.0 (unless (place_of g, 209) _ (rw (r.1, empty_faults) at e)) in
    let same : option_map_or (λ own. fits s own r.0) (slice_get (entries_of s.objects) o.0) false ≡ option_map_or (λ own. fits (before s) own r.0) (slice_get (entries_of s.objects) o.0) false =
    (λ i. option_map_or (λ own. fits_before s own own r.0 i) (slice_get (entries_of s.objects) o.0) false) in
    subst (λ (w : Option ℕ). (x : ℕ) × IsIn x (objects_of (signature_in s) (unwrap_or w 0))) (sym r.1) (o.0, are_objects_of (signature_in s) r.0 o.0 (same ∙ o.1))

function_valid : (v : Version) (s : Scope) (f : Form) → IsOf v sort.Function f → function_faults (before s) f ≡ [] → IsFunction (signature_in s) (function_in s.types f)
unfolding lists is_allowed function_faults function_in
function_valid v s = of_lists v (λ f. function_faults (before s) f ≡ [] → IsFunction (signature_in s) (function_in s.types f)) sort.Function (λ text. refl) tt (λ parts at end free m. by_parts parts at end m)
  where
    by_parts : (parts : Forms) (at end : ℕ) → Matches v (One sort.Name ∷ One sort.Name ∷ Many sort.Name ∷ []) parts → function_faults (before s) (Listing parts at end) ≡ [] → IsFunction (signature_in s) (function_in s.types (Listing parts at end))
    by_parts _ at end (one _ _ h _ is (one _ _ g gs also m)) e =
        let fs = form g gs in
        let types = each_faultless (type_faults s.types) fs (search faultless) in
        let l = last_holds (λ f. type_faults s.types f ≡ []) g gs types in
        let full : empty_faults (before s) (last_of fs) ≡ [] = search faultless in (
          (types_within s.types 2 (all_but_last fs) (each_but_last (λ f. type_faults s.types f ≡ []) fs types), types_length s.types 2 (all_but_last fs), rw l.1 (type_within s.types l.0 l.2)),
          rw l.1 (result_object s l.0 l.2 (rw l.1 at full)),
        )

-- ---- the whole

pub scope_shapes : (version : ℕ) (domain : Forms) → HasShapes (scope_of version domain)
unfolding scope_of predicate_in function_in
scope_shapes version domain =
    let types = types_in (section (codes "types") domain) in record {
      predicates = each_said (λ (x : Shape). length x.arguments ≤ 3) first_in (predicate_in types) _ (every_form _ (λ f. types_length types 3 (behind_head f)) (first_forms 32 (section (codes "predicates") domain)));
      functions = each_said (λ (x : Shape). length x.arguments ≤ 2) first_in (function_in types) _ (every_form _ (λ f. types_length types 2 (all_but_last (behind_head f))) (first_forms 32 (section (codes "functions") domain)));
    }

pub signature_valid : (v : Version) (version : ℕ) (domain : Forms) → EachForm (IsOf v sort.Function) (section (codes "functions") domain)
    → objects_section version (scope_of version domain).types (section (codes "objects") domain) ≡ [] → predicates_section (scope_of version domain).types (section (codes "predicates") domain) ≡ []
    → functions_section (before (scope_of version domain)) (section (codes "functions") domain) ≡ [] → IsValidSignature (signature_in (scope_of version domain))
unfolding scope_of objects_section predicates_section functions_section
signature_valid v version domain are no_object no_predicate no_function =
    let s = scope_of version domain in
    let small = scope_small version domain in
    let few = section (codes "functions") domain in
    let functions = each_said (IsFunction (signature_in s)) first_in (function_in s.types) (first_forms 32 few)
    (each_forms (IsOf v sort.Function) _ _ (function_valid v s) (first_forms 32 few) (each_of_first _ 32 few are) (section_faultless first_in 32 (function_in s.types) (function_faults (before s)) few no_function)) in
    let named = section (codes "predicates") domain in
    let predicates = each_said (IsPredicate (length s.types)) first_in (predicate_in s.types) (first_forms 32 named)
    (each_form _ _ (predicate_valid s.types) (first_forms 32 named) (section_faultless first_in 32 (predicate_in s.types) (predicate_faults s.types) named (search faultless))) in
    record {
      counted = entries_length s.types;
      parents = λ n up e. let r : up < 0 + n = earlier_types (first_forms 16 (section (codes "types") domain)) n up e in omega (arith, r);
      objects = (objects_within s.types (most_objects version) (section (codes "objects") domain) no_object, let a = small.objects in let b = entries_length s.objects in omega (arith, a, b));
      predicates = (predicates, let a = small.predicates in let b = entries_length s.predicates in omega (arith, a, b));
      functions = (
        each_weaker (IsFunction (signature_in s)) (λ x. Each (λ a. a < length s.types) x.arguments × (length x.arguments ≤ 2) × (x.result < length s.types)) (λ x is. is.0) (entries_of s.functions) functions,
        let a = small.functions in let b = entries_length s.functions in omega (arith, a, b),
      );
      values = λ f x e. (each_got (IsFunction (signature_in s)) (entries_of s.functions) f x functions e).1;
    }

pub within_shapes : (s : Scope) (fs : Forms) → HasShapes s → HasShapes (within s fs)
unfolding within
within_shapes s fs shapes = record { predicates = shapes.predicates; functions = shapes.functions }
