-- What the tables of declarations hold.
use Rattle.std.proofs.Common.{◌≡◌, ◌⊎◌, inl, inr, ℕ, zero, suc, ◌+◌, ◌-◌, ◌≤◌, ◌<◌, Bool, true, false, cond, List, [], ◌∷◌, ◌++◌, length, Option, Some, refl, sym, ap, ◌∙◌, subst, append_assoc, append-nil, is_some, bytes_eq, arith, slice_get, unwrap_or}
use Rattle.std.specs.Map.{keys_of}
use Rattle.std.proofs.lemmas.Option.{none-some, same_Some}
use Rattle.std.proofs.lemmas.Bool.{false≢true, true≢false}
use Rattle.std.proofs.lemmas.Slice.Eq.{bytes_eq-Decides}
use Rattle.pks_terms.specs.Sets.{Each, IsIn}
use Rattle.pks_terms.specs.ValidProblems.{AreDifferent}
use Rattle.pks_text.specs.Forms.{Form, Forms, no_forms, form, place_of}
use Rattle.pks_reader_shape.specs.Walk.{count}
use Rattle.pks_reader_shape.specs.Files.{Fault}
use Rattle.pks_reader_names.specs.Tables.{Table, number_of, entry_of, entries_of, declare}
use Rattle.pks_reader_names.specs.Parts.{text_of, behind_head, first_forms, all_but_last, last_of}
use Rattle.pks_reader_names.specs.Declarations.{name_of, name_faults, table_from, entries_faults, past_names, section_faults, section_table, Types, type_faults, type_named, types_named, parent_named, types_from, first_in, objects_with, objects_from, objects_faults}
use Rattle.pks_reader_problem.specs.Stated.{all}
use Rattle.pks_laws_reader.specs.Facts.{EachForm}
use Rattle.pks_laws_reader.proofs.Numbers.{nil_parts, nil_right, faultless, cons_nil, when, known, within_table, each_form}

-- ---- forms

pub every_form : (P : Form → Type 0) → ((f : Form) → P f) → (fs : Forms) → EachForm P fs
every_form P h no_forms = tt
every_form P h (form f fs) = (h f, every_form P h fs)

pub each_of_first : (P : Form → Type 0) (n : ℕ) (fs : Forms) → EachForm P fs → EachForm P (first_forms n fs)
each_of_first P zero fs a = tt
each_of_first P (suc n) no_forms a = tt
each_of_first P (suc n) (form f fs) a = (a.0, each_of_first P n fs a.1)

pub each_but_last : (P : Form → Type 0) (fs : Forms) → EachForm P fs → EachForm P (all_but_last fs)
each_but_last P no_forms a = tt
each_but_last P (form f no_forms) a = tt
each_but_last P (form f (form g fs)) a = (a.0, each_but_last P (form g fs) a.1)

-- the last form
pub last_holds : (P : Form → Type 0) (f : Form) (fs : Forms) → EachForm P (form f fs) → (g : Form) × (last_of (form f fs) ≡ Some g) × P g
last_holds P f no_forms a = (f, refl, a.0)
last_holds P f (form g fs) a = last_holds P g fs a.1

-- ---- what is said of names

-- what stays true with each declaration is true of what forms declare
pub each_tabled : {X : Type 0} (I : Table X → Type 0) (named : Form → Form) (said : Form → X) (t : Table X) (fs : Forms) → I t
    → EachForm (λ f. (t : Table X) → I t → I (declare t (name_of (named f)) (said f))) fs → I (table_from named said t fs)
each_tabled I named said t no_forms i h = i
each_tabled I named said t (form f fs) i h = each_tabled I named said (declare t (name_of (named f)) (said f)) fs (h.0 t i) h.1

pub each_declared : {X : Type 0} (P : X → Type 0) (t : Table X) (name : List ℕ) (x : X) → Each P (entries_of t) → P x → Each P (entries_of (declare t name x))
each_declared P [] name x a p = (p, tt)
each_declared P (y ∷ ys) name x a p = elim (bytes_eq name y.0) as (λ b. Each P (entries_of (cond b (y ∷ ys) (y ∷ declare ys name x)))) [ true ↦ a | false ↦ (a.0, each_declared P ys name x a.1 p) ]

-- what is said of each
pub each_said : {X : Type 0} (P : X → Type 0) (named : Form → Form) (said : Form → X) (fs : Forms) → EachForm (λ f. P (said f)) fs → Each P (entries_of (table_from named said [] fs))
each_said P named said fs are = each_tabled (λ t. Each P (entries_of t)) named said [] fs tt
    (each_form (λ f. P (said f)) _ (λ f p t a. each_declared P t (name_of (named f)) (said f) a p) fs are)

module _ {X : Type 0} where
  -- entries without a fault have none of their own
  pub entries_faultless : (named : Form → Form) (said : Form → X) (faults : Form → List Fault) (t : Table X) (fs : Forms) → entries_faults named said faults t fs ≡ [] → EachForm (λ f. faults f ≡ []) fs
  entries_faultless named said faults t no_forms e = tt
  entries_faultless named said faults t (form f fs) e = (search faultless, entries_faultless named said faults (declare t (name_of (named f)) (said f)) fs (search faultless))

  pub section_faultless : (named : Form → Form) (n : ℕ) (said : Form → X) (faults : Form → List Fault) (fs : Forms) → section_faults named n said faults fs ≡ [] → EachForm (λ f. faults f ≡ []) (first_forms n fs)
  section_faultless named n said faults fs e = entries_faultless named said faults [] (first_forms n fs) (search faultless)

  pub entries_length : (t : Table X) → length (entries_of t) ≡ length t
  entries_length [] = refl
  entries_length (y ∷ ys) = ap suc (entries_length ys)

  -- ---- the names themselves

  pub each_key : (P : List ℕ → Type 0) (t : Table X) (name : List ℕ) (x : X) → Each P (keys_of t) → P name → Each P (keys_of (declare t name x))
  each_key P [] name x a p = (p, tt)
  each_key P (y ∷ ys) name x a p = elim (bytes_eq name y.0) as (λ b. Each P (keys_of (cond b (y ∷ ys) (y ∷ declare ys name x)))) [ true ↦ a | false ↦ (a.0, each_key P ys name x a.1 p) ]

  key_declared : (t : Table X) (name : List ℕ) (x : X) (z : List ℕ) → IsIn z (keys_of (declare t name x)) → IsIn z (keys_of t) ⊎ (name ≡ z)
  key_declared [] name x z (inl e) = inr e
  key_declared [] name x z (inr i) = absurd i
  key_declared (y ∷ ys) name x z i = by_test (bytes_eq name y.0) (λ j. key_declared ys name x z j) i
    where
      later : IsIn z (keys_of ys) ⊎ (name ≡ z) → ((y.0 ≡ z) ⊎ IsIn z (keys_of ys)) ⊎ (name ≡ z)
      later (inl i) = inl (inr i)
      later (inr e) = inr e

      by_test : (b : Bool) → (IsIn z (keys_of (declare ys name x)) → IsIn z (keys_of ys) ⊎ (name ≡ z)) → IsIn z (keys_of (cond b (y ∷ ys) (y ∷ declare ys name x))) → ((y.0 ≡ z) ⊎ IsIn z (keys_of ys)) ⊎ (name ≡ z)
      by_test true deeper i = inl i
      by_test false deeper (inl e) = inl (inl e)
      by_test false deeper (inr i) = later (deeper i)

  -- names are different
  pub different_declared : (t : Table X) (name : List ℕ) (x : X) → AreDifferent (keys_of t) → AreDifferent (keys_of (declare t name x))
  different_declared [] name x d = ((λ i. i), tt)
  different_declared (y ∷ ys) name x d = by_test (bytes_eq name y.0) (λ e. (bytes_eq-Decides name y.0).1 e) (different_declared ys name x d.1)
    where
      by_test : (b : Bool) → (name ≡ y.0 → b ≡ true) → AreDifferent (keys_of (declare ys name x)) → AreDifferent (keys_of (cond b (y ∷ ys) (y ∷ declare ys name x)))
      by_test true same later = d
      by_test false same later = ((λ i. elim (key_declared ys name x y.0 i) [ inl j ↦ d.0 j | inr e ↦ false≢true (same e) ]), later)

  -- names that are spelled so, and different
  abbrev pub AreKeys : (List ℕ → Type 0) → Table X → Type 0
  AreKeys P t = Each P (keys_of t) × AreDifferent (keys_of t)

  pub keys_declared : (P : List ℕ → Type 0) (t : Table X) (name : List ℕ) (x : X) → P name → AreKeys P t → AreKeys P (declare t name x)
  keys_declared P t name x p are = (each_key P t name x are.0 p, different_declared t name x are.1)

  pub each_name : (P : List ℕ → Type 0) (named : Form → Form) (said : Form → X) (fs : Forms) → EachForm (λ f. P (name_of (named f))) fs → AreKeys P (table_from named said [] fs)
  each_name P named said fs are = each_tabled (AreKeys P) named said [] fs (tt, tt) (each_form _ _ (λ f p t. keys_declared P t (name_of (named f)) (said f) p) fs are)

  -- a new name comes last
  declared_last : (t : Table X) (name : List ℕ) (x : X) → is_some (entry_of t name) ≡ false → keys_of (declare t name x) ≡ keys_of t ++ name ∷ []
  declared_last [] name x e = refl
  declared_last (y ∷ ys) name x e = by_test (bytes_eq name y.0) (declared_last ys name x) e
    where
      by_test : (b : Bool) → (is_some (entry_of ys name) ≡ false → keys_of (declare ys name x) ≡ keys_of ys ++ name ∷ []) → is_some (cond b (Some y.1) (entry_of ys name)) ≡ false
          → keys_of (cond b (y ∷ ys) (y ∷ declare ys name x)) ≡ y.0 ∷ (keys_of ys ++ name ∷ [])
      by_test true later e = absurd (true≢false e)
      by_test false later e = ap (λ names. y.0 ∷ names) (later e)

  -- where no name is given twice, these are the names in order
  pub names_kept : (named : Form → Form) (said : Form → X) (faults : Form → List Fault) (t : Table X) (fs : Forms) → entries_faults named said faults t fs ≡ []
      → keys_of (table_from named said t fs) ≡ keys_of t ++ all (λ f. name_of (named f)) fs
  names_kept named said faults t no_forms e = sym (append-nil (keys_of t))
  names_kept named said faults t (form f fs) e =
      let name = name_of (named f) in
      let new : name_faults t (named f) ≡ [] = search faultless in
      names_kept named said faults (declare t name (said f)) fs (search faultless)
      ∙ ap (λ names. names ++ all (λ f. name_of (named f)) fs) (declared_last t name (said f) (when (place_of (named f), 202) (is_some (entry_of t name)) (nil_right _ _ new)))
      ∙ append_assoc (keys_of t) (name ∷ []) (all (λ f. name_of (named f)) fs)

-- ---- types

-- a type that is named is one of the table
pub type_within : (types : Types) (f : Form) → type_faults types f ≡ [] → type_named types f < length types
type_within types f e =
    let r = known (place_of f) 203 (number_of types (text_of f)) (search faultless) in
    subst (λ (o : Option ℕ). unwrap_or o 0 < length types) (sym r.1) (within_table types (text_of f) r.0 r.1)

pub types_within : (types : Types) (n : ℕ) (fs : Forms) → EachForm (λ f. type_faults types f ≡ []) fs → Each (λ a. a < length types) (types_named types n fs)
types_within types zero fs a = tt
types_within types (suc n) no_forms a = tt
types_within types (suc n) (form f fs) a = (type_within types f a.0, types_within types n fs a.1)

pub types_length : (types : Types) (n : ℕ) (fs : Forms) → length (types_named types n fs) ≤ n
types_length types zero fs = omega arith
types_length types (suc n) no_forms = omega arith
types_length types (suc n) (form f fs) = let r = types_length types n fs in omega (arith, r)

-- each parent stands before
abbrev pub AreEarlier : ℕ → List (Option ℕ) → Type 0
AreEarlier k os = (n up : ℕ) → slice_get os n ≡ Some (Some up) → up < k + n

earlier_declared : (k : ℕ) (t : Types) (name : List ℕ) (x : Option ℕ) → AreEarlier k (entries_of t) → ((up : ℕ) → x ≡ Some up → up < k + length t) → AreEarlier k (entries_of (declare t name x))
earlier_declared k [] name x a h = start
  where
    start : (n up : ℕ) → slice_get (x ∷ []) n ≡ Some (Some up) → up < k + n
    start zero up e = h up (same_Some x (Some up) e)
    start (suc n) up e = absurd (none-some (Some up) e)
earlier_declared k (y ∷ ys) name x a h = by_test (bytes_eq name y.0) (earlier_declared (suc k) ys name x (λ n up e. let r : up < k + suc n = a (suc n) up e in omega (arith, r)) (λ up e. let r : up < k + suc (length ys) = h up e in omega (arith, r)))
  where
    by_place : AreEarlier (suc k) (entries_of (declare ys name x)) → (n up : ℕ) → slice_get (y.1 ∷ entries_of (declare ys name x)) n ≡ Some (Some up) → up < k + n
    by_place later zero up e = a zero up e
    by_place later (suc n) up e = let r = later n up e in omega (arith, r)

    by_test : (b : Bool) → AreEarlier (suc k) (entries_of (declare ys name x)) → AreEarlier k (entries_of (cond b (y ∷ ys) (y ∷ declare ys name x)))
    by_test true later = a
    by_test false later = λ n up e. by_place later n up e

pub each_type : (I : Types → Type 0) (t : Types) (fs : Forms) → I t → EachForm (λ f. (t : Types) → I t → I (declare t (name_of (first_in f)) (parent_named t (behind_head f)))) fs → I (types_from t fs)
each_type I t no_forms i h = i
each_type I t (form f fs) i h = each_type I (declare t (name_of (first_in f)) (parent_named t (behind_head f))) fs (h.0 t i) h.1

pub earlier_types : (fs : Forms) → AreEarlier 0 (entries_of (types_from [] fs))
earlier_types fs = each_type (λ t. AreEarlier 0 (entries_of t)) [] fs (λ n up e. absurd (none-some (Some up) e))
    (every_form _ (λ f t a. earlier_declared 0 t (name_of (first_in f)) (parent_named t (behind_head f)) a (parent t (behind_head f))) fs)
  where
    parent : (t : Types) (gs : Forms) (up : ℕ) → parent_named t gs ≡ Some up → up < 0 + length t
    parent t no_forms up e = absurd (none-some up e)
    parent t (form g gs) up e = let r = within_table t (text_of g) up e in omega (arith, r)

-- ---- objects

pub each_object : (I : Table ℕ → Type 0) (types : Types) (n : ℕ) (t : Table ℕ) (fs : Forms) → I t
    → EachForm (λ f. EachForm (λ g. (t : Table ℕ) → I t → I (declare t (name_of (first_in g)) (type_named types (first_in f)))) (behind_head f)) fs → I (objects_from types n t fs)
each_object I types n t no_forms i h = i
each_object I types n t (form f fs) i h = each_object I types (n - count (behind_head f)) (objects_with types n t f) fs
    (each_tabled I first_in (λ g. type_named types (first_in f)) t (first_forms n (behind_head f)) i (each_of_first _ n (behind_head f) h.0)) h.1

-- the entry's type is declared
typed_entries : (types : Types) (n : ℕ) (t : Table ℕ) (fs : Forms) → objects_faults types n t fs ≡ [] → EachForm (λ f. type_faults types (first_in f) ≡ []) fs
typed_entries types n t no_forms e = tt
typed_entries types n t (form f fs) e = (search faultless, typed_entries types (n - count (behind_head f)) (objects_with types n t f) fs (search faultless))

pub objects_within : (types : Types) (n : ℕ) (fs : Forms) → objects_faults types n [] fs ≡ [] → Each (λ a. a < length types) (entries_of (objects_from types n [] fs))
objects_within types n fs e = each_object (λ t. Each (λ a. a < length types) (entries_of t)) types n [] fs tt
    (each_form (λ f. type_faults types (first_in f) ≡ []) _ (λ f no. every_form _ (λ g t a. each_declared _ t (name_of (first_in g)) (type_named types (first_in f)) a (type_within types (first_in f) no)) (behind_head f))
    fs (typed_entries types n [] fs e))
