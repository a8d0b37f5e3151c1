-- Empty lists of faults, and the numbers of names.
use Rattle.std.proofs.Common.{◌≡◌, ℕ, zero, suc, ◌+◌, ◌<◌, nat_lt, Bool, true, false, cond, not, List, [], ◌∷◌, ◌++◌, length, Option, Some, None, refl, ap, ◌∙◌, subst, bytes_eq, arith, slice_get}
use Rattle.std.specs.List.{prefix_len}
use Rattle.std.specs.Map.{keys_of}
use Rattle.std.proofs.lemmas.Bool.{lt-ltb, ltb-true}
use Rattle.std.proofs.lemmas.Option.{none-some, same_Some}
use Rattle.pks_terms.specs.Sets.{Each}
use Rattle.pks_text.specs.Forms.{Form, Forms, no_forms, form}
use Rattle.pks_reader_shape.specs.Files.{Fault}
use Rattle.pks_reader_names.specs.Tables.{Table, number_of, entry_of, entries_of, unknown}
use Rattle.pks_reader_names.specs.Parts.{each, past}
use Rattle.pks_reader_problem.specs.Stated.{first, all, or_zero}
use Rattle.pks_laws_reader.specs.Facts.{EachForm}

pub cons_nil : {X : Type 0} {x : X} {xs : List X} → x ∷ xs ≡ [] → ⊥
cons_nil e = grind arith

pub nil_parts : {X : Type 0} (xs ys : List X) → xs ++ ys ≡ [] → (xs ≡ []) × (ys ≡ [])
nil_parts [] ys e = (refl, e)
nil_parts (x ∷ xs) ys e = absurd (cons_nil e)

pub nil_left : {X : Type 0} (xs ys : List X) → xs ++ ys ≡ [] → xs ≡ []
nil_left xs ys e = (nil_parts xs ys e).0

pub nil_right : {X : Type 0} (xs ys : List X) → xs ++ ys ≡ [] → ys ≡ []
nil_right xs ys e = (nil_parts xs ys e).1

-- where lists have no fault one after the other, none has one
pub ruleset faultless = (nil_left, nil_right)

-- a test gives no fault
pub unless : {X : Type 0} (x : X) (b : Bool) → cond b [] (x ∷ []) ≡ [] → b ≡ true
unless x true e = refl
unless x false e = absurd (cons_nil e)

pub when : {X : Type 0} (x : X) (b : Bool) → cond b (x ∷ []) [] ≡ [] → b ≡ false
when x true e = absurd (cons_nil e)
when x false e = refl

pub known : {X : Type 0} (at code : ℕ) (o : Option X) → unknown at code o ≡ [] → (x : X) × (o ≡ Some x)
known at code None e = absurd (cons_nil e)
known at code (Some x) e = (x, refl)

abbrev place_in_keys : {X : Type 0} → Table X → List ℕ → ℕ
place_in_keys t name = prefix_len (λ k. not (bytes_eq name k)) (keys_of t)

numbered_at : {X : Type 0} (t : Table X) (name : List ℕ) (x : X) → entry_of t name ≡ Some x → (place_in_keys t name < length (keys_of t)) × (slice_get (entries_of t) (place_in_keys t name) ≡ Some x)
numbered_at [] name x e = absurd (none-some x e)
numbered_at {X} (y ∷ ys) name x e =
    elim (bytes_eq name y.0) as (λ b. cond b (Some y.1) (entry_of ys name) ≡ Some x → (cond (not b) (1 + place_in_keys ys name) 0 < length (y.0 ∷ keys_of ys)) × (slice_get (y.1 ∷ entries_of ys) (cond (not b) (1 + place_in_keys ys name) 0) ≡ Some x)) [
      | true ↦ λ h. (omega arith, h)
      | false ↦ λ h.
          let r = numbered_at ys name x h in
          let short : place_in_keys ys name < length (keys_of ys) = r.0 in
          let z : suc (place_in_keys ys name) ≡ 1 + place_in_keys ys name = omega arith in
          (omega (arith, short), subst (λ n. slice_get (y.1 ∷ entries_of ys) n ≡ Some x) z r.1)
    ] e

pub numbered : {X : Type 0} (t : Table X) (name : List ℕ) (x : X) → entry_of t name ≡ Some x → (i : ℕ) × (number_of t name ≡ Some i) × (slice_get (entries_of t) i ≡ Some x)
numbered t name x e =
    let r = numbered_at t name x e in
    (place_in_keys t name, ap (λ b. cond b (Some (place_in_keys t name)) None) (lt-ltb (place_in_keys t name) (length (keys_of t)) r.0), r.1)

-- a declared name, with what is said of it where its number is
pub record Declared {X : Type 0} (t : Table X) (name : List ℕ) : Type 0 where
  pub said : X
  pub entry : entry_of t name ≡ Some said
  pub placed : slice_get (entries_of t) (or_zero (number_of t name)) ≡ Some said

pub declared : {X : Type 0} (t : Table X) (name : List ℕ) (at code : ℕ) → unknown at code (entry_of t name) ≡ [] → Declared t name
declared t name at code e =
    let k = known at code (entry_of t name) e in
    let n = numbered t name k.0 k.1 in
    record { said = k.0; entry = k.1; placed = ap (λ (o : Option ℕ). slice_get (entries_of t) (or_zero o)) n.1 ∙ n.2 }

pub keys_length : {X : Type 0} (t : Table X) → length (keys_of t) ≡ length t
keys_length [] = refl
keys_length (y ∷ ys) = ap suc (keys_length ys)

-- a number is one of the table
pub within_table : {X : Type 0} (t : Table X) (name : List ℕ) (i : ℕ) → number_of t name ≡ Some i → i < length t
within_table {X} t name i e = by_test (nat_lt (place_in_keys t name) (length (keys_of t))) refl e
  where
    by_test : (b : Bool) → nat_lt (place_in_keys t name) (length (keys_of t)) ≡ b → cond b (Some (place_in_keys t name)) None ≡ Some i → i < length t
    by_test true same h = let n = same_Some (place_in_keys t name) i h in let k = keys_length t in let short = ltb-true (place_in_keys t name) (length (keys_of t)) same in omega (arith, n, k, short)
    by_test false same h = absurd (none-some i h)

pub each_got : {X : Type 0} (P : X → Type 0) (xs : List X) (i : ℕ) (x : X) → Each P xs → slice_get xs i ≡ Some x → P x
each_got P [] i x a e = absurd (none-some x e)
each_got P (y ∷ ys) zero x a e = subst P (same_Some y x e) a.0
each_got P (y ∷ ys) (suc i) x a e = each_got P ys i x a.1 e

-- ---- forms

pub each_forms : (P Q R : Form → Type 0) → ((f : Form) → P f → Q f → R f) → (fs : Forms) → EachForm P fs → EachForm Q fs → EachForm R fs
each_forms P Q R h no_forms p q = tt
each_forms P Q R h (form f fs) p q = (h f p.0 q.0, each_forms P Q R h fs p.1 q.1)

pub each_form : (P Q : Form → Type 0) → ((f : Form) → P f → Q f) → (fs : Forms) → EachForm P fs → EachForm Q fs
each_form P Q h fs p = each_forms P P Q (λ f is also. h f is) fs p p

-- where no form has a fault, each has none
pub each_faultless : (faults : Form → List Fault) (fs : Forms) → each faults fs ≡ [] → EachForm (λ f. faults f ≡ []) fs
each_faultless faults no_forms e = tt
each_faultless faults (form f fs) e = (search faultless, each_faultless faults fs (search faultless))

-- what each form means
pub each_all : {X : Type 0} (P : Form → Type 0) (Q : X → Type 0) (meant : Form → X) → ((f : Form) → P f → Q (meant f)) → (fs : Forms) → EachForm P fs → Each Q (all meant fs)
each_all P Q meant h no_forms a = tt
each_all P Q meant h (form f fs) a = (h f a.0, each_all P Q meant h fs a.1)

-- where none has a fault
pub all_hold : {X : Type 0} (P : Form → Type 0) (faults : Form → List Fault) (Q : X → Type 0) (meant : Form → X) → ((f : Form) → P f → faults f ≡ [] → Q (meant f))
    → (fs : Forms) → EachForm P fs → each faults fs ≡ [] → Each Q (all meant fs)
all_hold P faults Q meant h fs are e =
    each_all (λ f. Q (meant f)) Q meant (λ f is. is) fs (each_forms P (λ f. faults f ≡ []) (λ f. Q (meant f)) h fs are (each_faultless faults fs e))

-- the first of them are all where none is past them
pub first_is_all : {X : Type 0} (meant : Form → X) (n : ℕ) (fs : Forms) → past n fs ≡ [] → first n meant fs ≡ all meant fs
first_is_all meant zero no_forms e = refl
first_is_all meant (suc n) no_forms e = refl
first_is_all meant zero (form f fs) e = absurd (cons_nil e)
first_is_all meant (suc n) (form f fs) e = ap (λ xs. meant f ∷ xs) (first_is_all meant n fs e)
