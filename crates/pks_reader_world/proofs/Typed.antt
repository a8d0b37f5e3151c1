-- Facts without a fault name atoms and values of the declared types.
use Rattle.std.proofs.Common.{◌≡◌, ◌≤◌, ◌==◌, ◌+◌, ◌++◌, ℕ, zero, suc, false, List, [], ◌∷◌, map, length, drop, slice_get, Option, Some, None, refl, sym, ap, ◌∙◌, subst, arith, add-one, option_map, is_some, true≢false}
use Rattle.std.specs.Prelude.{option_and_then}
use Rattle.std.specs.Option.{option_map_or}
use Rattle.std.proofs.lemmas.Bool.{eqb-true}
use Rattle.pks_terms.specs.Sets.{IsIn}
use Rattle.pks_terms.specs.Syntax.{Object, place}
use Rattle.pks_terms.specs.Signatures.{Shape, fits_type, objects_of, object_is_of}
use Rattle.pks_terms.specs.Typed.{AllMayStand}
use Rattle.pks_terms.specs.Meaning.{AreOfTypes}
use Rattle.pks_terms.specs.Valid.{IsValidSignature}
use Rattle.pks_terms.proofs.Types.{are_objects_of}
use Rattle.pks_text.specs.Forms.{Form, Forms, no_forms, form, place_of}
use Rattle.pks_reader_shape.specs.Walk.{count, head_of}
use Rattle.pks_reader_shape.specs.Files.{Fault}
use Rattle.pks_reader_shape.specs.Refusals.{refusing}
use Rattle.pks_reader_shape.specs.declared.report.Refusal.{Refusal}
use Rattle.pks_reader_names.specs.Tables.{Table, number_of, entry_of, entries_of, unknown}
use Rattle.pks_reader_names.specs.Scopes.{Scope, signature_in, fits}
use Rattle.pks_reader_names.specs.Parts.{text_of, parts_of, behind_head}
use Rattle.pks_reader_names.specs.Declarations.{first_in, second_in}
use Rattle.pks_reader_names.specs.Terms.{wanted_by}
use Rattle.pks_reader_names.specs.Meaning.{all_noted}
use Rattle.pks_reader_names.proofs.Least.{least_none}
use Rattle.pks_laws_reader.proofs.Numbers.{cons_nil, nil_parts, unless, known, numbered, each_got}
use Rattle.pks_world.specs.Contents.{ground}
use Rattle.pks_reader_world.specs.Naming.{object_named, objects_named, place_named}
use Rattle.pks_reader_world.specs.Facts.{Given, misfit, object_faults, objects_faults, miscounted, fact_faults, true_faults, again, function_at, value_faults}
use Rattle.pks_reader_world.specs.Typing.{IsAtom, IsValue}

-- ---- noting

-- the faults of words from one on
pub first_object : (s : Scope) (tys : List ℕ) (i : ℕ) (f : Form) (fs : Forms) → objects_faults s (drop i tys) (form f fs) ≡ object_faults s (slice_get tys i) f ++ objects_faults s (drop (i + 1) tys) fs
first_object s tys i f fs = from tys i ∙ ap (λ n. object_faults s (slice_get tys i) f ++ objects_faults s (drop n tys) fs) (sym (add-one i))
  where
    from : (tys : List ℕ) (i : ℕ) → objects_faults s (drop i tys) (form f fs) ≡ object_faults s (slice_get tys i) f ++ objects_faults s (drop (suc i) tys) fs
    from [] zero = refl
    from [] (suc i) = refl
    from (a ∷ tys) zero = refl
    from (a ∷ tys) (suc i) = from tys i

-- where nothing is found, nothing was found before, and there is no fault
pub none_found : (r : Option Fault) (fs : List Fault) → all_noted r fs ≡ None → (r ≡ None) × (fs ≡ [])
none_found None fs e = (refl, least_none fs e)
none_found (Some f) fs e = absurd (cons_nil (least_none (f ∷ fs) e))

none_told : (now : Option Fault) → is_some (refusing now) ≡ false → now ≡ None
none_told None e = refl
none_told (Some f) e = absurd (true≢false e)

-- where nothing is refused, these are no faults
pub faultless : (r now : Option Fault) (fs : List Fault) (told : Option Refusal) → now ≡ all_noted r fs → told ≡ refusing now → is_some told ≡ false → fs ≡ []
faultless r now fs told noted refused none = (none_found r fs (sym noted ∙ none_told now (sym (ap is_some refused) ∙ none))).1

-- ---- what is named

pub entries_length : {X : Type 0} (t : Table X) → length (entries_of t) ≡ length t
entries_length [] = refl
entries_length (e ∷ es) = ap suc (entries_length es)

module _ (s : Scope) where
  object_is : (a : ℕ) (f : Form) → object_faults s (Some a) f ≡ [] → (d : ℕ) × (object_named s f ≡ Some d) × IsIn d (objects_of (signature_in s) a)
  unfolding object_is_of
  object_is a f e =
      elim (entry_of s.objects (text_of f)) as (λ o. entry_of s.objects (text_of f) ≡ o → ◌≡◌ {A = List (ℕ × ℕ)} (elim o [ None ↦ (place_of f, 301) ∷ [] | Some own ↦ misfit s (Some a) own (place_of f) ]) [] → (d : ℕ) × (object_named s f ≡ Some d) × IsIn d (objects_of (signature_in s) a)) [
        | None ↦ λ q h. absurd (cons_nil h)
        | Some own ↦ λ q h.
            let n = numbered s.objects (text_of f) own q in
            (n.0, n.1, are_objects_of (signature_in s) a n.0 (ap (λ o. option_map_or (λ x. fits_type (signature_in s) x a) o false) n.2 ∙ unless (place_of f, 302) (fits s own a) h))
      ] refl e

  objects_are : (tys : List ℕ) (n : ℕ) (fs : Forms) → length tys ≡ count fs → length tys ≤ n → objects_faults s tys fs ≡ [] → (ds : List ℕ) × (objects_named s n fs ≡ Some ds) × AreOfTypes (signature_in s) tys ds
  objects_are [] zero no_forms c l e = ([], refl, tt)
  objects_are [] (suc n) no_forms c l e = ([], refl, tt)
  objects_are [] n (form f fs) c l e = absurd (omega (arith, c))
  objects_are (a ∷ tys) n no_forms c l e = absurd (omega (arith, c))
  objects_are (a ∷ tys) zero (form f fs) c l e = absurd (omega (arith, l))
  objects_are (a ∷ tys) (suc n) (form f fs) c l e =
      let both = nil_parts (object_faults s (Some a) f) (objects_faults s tys fs) e in
      let o = object_is a f both.0 in
      let same : length tys ≡ count fs = omega (arith, c) in
      let less : length tys ≤ n = omega (arith, l) in
      let r = objects_are tys n fs same less both.1 in
      (o.0 ∷ r.0, λ i. option_and_then (λ d. option_map (λ ds. d ∷ ds) (r.1 i)) (o.1 i), (o.2, r.2))

  -- what a fact without a fault names
  record Names (table : Table Shape) (n : ℕ) (f : Form) : Type 0 where
    number : ℕ
    shape : Shape
    objects : List ℕ
    numbered_is : number_of table (head_of (parts_of f)) ≡ Some number
    said : entry_of table (head_of (parts_of f)) ≡ Some shape
    declared : slice_get (entries_of table) number ≡ Some shape
    objects_is : objects_named s n (behind_head f) ≡ Some objects
    typed : AreOfTypes (signature_in s) shape.arguments objects

  fact_is : (table : Table Shape) (n : ℕ) (f : Form) → ((i : ℕ) (x : Shape) → slice_get (entries_of table) i ≡ Some x → length x.arguments ≤ n) → fact_faults s (entry_of table (head_of (parts_of f))) f ≡ [] → Names table n f
  fact_is table n f short e =
      let shape = entry_of table (head_of (parts_of f)) in
      let args = behind_head f in
      let head = unknown (place_of (first_in f)) 301 shape in
      let outer = nil_parts (head ++ miscounted shape args (place_of f)) (objects_faults s (wanted_by shape) args) e in
      let inner = nil_parts head (miscounted shape args (place_of f)) outer.0 in
      let k = known (place_of (first_in f)) 301 shape inner.0 in
      let n_is = numbered table (head_of (parts_of f)) k.0 k.1 in
      let counted : length k.0.arguments ≡ count args = eqb-true (length k.0.arguments) (count args) (unless (place_of f, 302) (length k.0.arguments == count args) (subst (λ (o : Option Shape). miscounted o args (place_of f) ≡ []) k.1 inner.1)) in
      let r = objects_are k.0.arguments n args counted (short n_is.0 k.0 n_is.2) (subst (λ (o : Option Shape). objects_faults s (wanted_by o) args ≡ []) k.1 outer.1) in
      record { number = n_is.0; shape = k.0; objects = r.0; numbered_is = n_is.1; said = k.1; declared = n_is.2; objects_is = r.1; typed = r.2 }

  stand : (tys ds : List ℕ) → AreOfTypes (signature_in s) tys ds → AllMayStand (signature_in s) [] tys (map Object ds)
  stand [] [] t = tt
  stand [] (d ∷ ds) t = absurd t
  stand (a ∷ tys) [] t = absurd t
  stand (a ∷ tys) (d ∷ ds) t = (t.0, stand tys ds t.1)

  module _ (valid : IsValidSignature (signature_in s)) where
    pub truth_is : (f : Form) → true_faults s f ≡ [] → IsAtom s f
    truth_is f e =
        let n = fact_is s.predicates 3 f (λ i x is. (each_got _ (entries_of s.predicates) i x valid.predicates.0 is).1) e in
        record {
          predicate = n.number;
          objects = n.objects;
          shape = n.shape;
          declared = n.declared;
          named = λ i. option_and_then (λ p. option_map (ground p) (n.objects_is i)) (n.numbered_is i);
          typed = stand n.shape.arguments n.objects n.typed;
        }

    pub value_is : (given : Given) (f : Form) → value_faults s given f ≡ [] → IsValue s f
    unfolding value_faults
    value_is given f e =
        let g = first_in f in
        let outer = nil_parts (fact_faults s (function_at s g) g ++ again given (place_named s g) (place_of g)) (object_faults s (option_map (λ x. x.result) (function_at s g)) (second_in f)) e in
        let inner = nil_parts (fact_faults s (function_at s g) g) (again given (place_named s g) (place_of g)) outer.0 in
        let n = fact_is s.functions 2 g (λ i x is. (each_got _ (entries_of s.functions) i x valid.functions.0 is).1) inner.0 in
        let v = object_is n.shape.result (second_in f) (subst (λ (o : Option Shape). object_faults s (option_map (λ x. x.result) o) (second_in f) ≡ []) n.said outer.1) in
        record {
          function = n.number;
          objects = n.objects;
          shape = n.shape;
          value = v.0;
          declared = n.declared;
          place_is = λ i. option_and_then (λ k. option_map (place k) (n.objects_is i)) (n.numbered_is i);
          value_is = v.1;
          typed = n.typed;
          fits = v.2;
        }
