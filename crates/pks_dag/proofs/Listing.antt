-- Lists by place, and each element where it first stands.
use Rattle.std.proofs.Common.{◌≡◌, ◌+◌, ◌||◌, ◌⊎◌, ℕ, zero, suc, Bool, true, false, cond, not, List, [], ◌∷◌, ◌++◌, length, fold, slice_get, Some, append_assoc, append-nil, refl, sym, ap, ◌∙◌, inl, inr, ⊎_elim, true≢false, one-add, arith}
use Rattle.std.specs.List.{list_any, position_or_len}
use Rattle.std.proofs.lemmas.Option.{none-some, same_Some}
use Rattle.std.proofs.lemmas.List.Folds.{list_any-append}
use Rattle.pks_terms.specs.Sets.{Each, IsIn, first_of_each}
use Rattle.pks_terms.specs.Nodes.{NoTwoEqual}
use Rattle.pks_terms.proofs.ListLaws.{each_append, or_swapped, or_false}

-- ---- what stands at a place

pub get_kept : {X : Type 0} (xs ys : List X) (n : ℕ) (x : X) → slice_get xs n ≡ Some x → slice_get (xs ++ ys) n ≡ Some x
get_kept [] ys n x e = absurd (none-some x e)
get_kept (z ∷ xs) ys zero x e = e
get_kept (z ∷ xs) ys (suc n) x e = get_kept xs ys n x e

pub get_last : {X : Type 0} (xs : List X) (y : X) → slice_get (xs ++ y ∷ []) (length xs) ≡ Some y
get_last [] y = refl
get_last (x ∷ xs) y = get_last xs y

pub get_either : {X : Type 0} (xs : List X) (y : X) (n : ℕ) (x : X) → slice_get (xs ++ y ∷ []) n ≡ Some x → (slice_get xs n ≡ Some x) ⊎ ((n ≡ length xs) × (y ≡ x))
get_either [] y zero x e = inr (refl, same_Some y x e)
get_either [] y (suc n) x e = absurd (none-some x e)
get_either (z ∷ xs) y zero x e = inl e
get_either (z ∷ xs) y (suc n) x e = ⊎_elim (λ h. inl h) (λ h. inr (ap suc h.0, h.1)) (get_either xs y n x e)

pub same_reach : {X Y : Type 0} (xs : List X) (ys : List Y) → length xs ≡ length ys → (k : ℕ) (x : X) → slice_get xs k ≡ Some x → (y : Y) × (slice_get ys k ≡ Some y)
same_reach [] ys e k x h = absurd (none-some x h)
same_reach (z ∷ xs) [] e k x h = absurd (omega (arith, e))
same_reach (z ∷ xs) (y ∷ ys) e zero x h = (y, refl)
same_reach (z ∷ xs) (y ∷ ys) e (suc k) x h = let same : length xs ≡ length ys = omega (arith, e) in same_reach xs ys same k x h

pub list_same : {X : Type 0} (xs ys : List X) → length xs ≡ length ys → ((k : ℕ) (x y : X) → slice_get xs k ≡ Some x → slice_get ys k ≡ Some y → x ≡ y) → xs ≡ ys
list_same [] [] e f = refl
list_same [] (y ∷ ys) e f = absurd (omega (arith, e))
list_same (x ∷ xs) [] e f = absurd (omega (arith, e))
list_same (x ∷ xs) (y ∷ ys) e f =
    let same : length xs ≡ length ys = omega (arith, e) in
    let rest = list_same xs ys same (λ k. f (suc k)) in
    λ i. f 0 x y refl refl i ∷ rest i

pub in_place : {X : Type 0} (x : X) (xs : List X) → IsIn x xs → (k : ℕ) × (slice_get xs k ≡ Some x)
in_place x [] h = absurd h
in_place x (y ∷ ys) h = ⊎_elim (λ e. (0, ap Some e)) (λ i. let r = in_place x ys i in (suc r.0, r.1)) h

pub place_in : {X : Type 0} (xs : List X) (k : ℕ) (x : X) → slice_get xs k ≡ Some x → IsIn x xs
place_in [] k x e = absurd (none-some x e)
place_in (y ∷ ys) zero x e = inl (same_Some y x e)
place_in (y ∷ ys) (suc k) x e = inr (place_in ys k x e)

pub to_distinct : {X : Type 0} (xs : List X) → ((i j : ℕ) (x : X) → slice_get xs i ≡ Some x → slice_get xs j ≡ Some x → i ≡ j) → NoTwoEqual xs
to_distinct [] f = tt
to_distinct (x ∷ xs) f = (
  λ h. let r = in_place x xs h in let e : 0 ≡ suc r.0 = f 0 (suc r.0) x refl r.1 in omega (arith, e),
  to_distinct xs (λ i j y p q. let e : suc i ≡ suc j = f (suc i) (suc j) y p q in omega (arith, e)),
)

pub longer : {X : Type 0} (xs : List X) (y : X) → length (xs ++ y ∷ []) ≡ suc (length xs)
longer [] y = refl
longer (x ∷ xs) y = ap suc (longer xs y)

-- ---- the first place at which a test passes

found_step : {X : Type 0} (p : X → Bool) (x : X) (xs : List X) (b : Bool) → p x ≡ b → (b || list_any p xs) ≡ true
    → (list_any p xs ≡ true → (y : X) × (slice_get xs (position_or_len p xs) ≡ Some y) × (p y ≡ true))
    → (y : X) × (slice_get (x ∷ xs) (cond (not b) (1 + position_or_len p xs) 0) ≡ Some y) × (p y ≡ true)
found_step p x xs true e h later = (x, refl, e)
found_step p x xs false e h later = let r = later h in (r.0, ap (slice_get (x ∷ xs)) (one-add (position_or_len p xs)) ∙ r.1, r.2)

pub first_found : {X : Type 0} (p : X → Bool) (xs : List X) → list_any p xs ≡ true → (y : X) × (slice_get xs (position_or_len p xs) ≡ Some y) × (p y ≡ true)
first_found p [] e = absurd (true≢false (sym e))
first_found p (x ∷ xs) e = found_step p x xs (p x) refl e (first_found p xs)

missed_step : (n m : ℕ) (b : Bool) → b ≡ false → n ≡ m → cond (not b) (1 + n) 0 ≡ suc m
missed_step n m false e f = one-add n ∙ ap suc f
missed_step n m true e f = absurd (true≢false e)

or_neither : (a b : Bool) → (a || b) ≡ false → (a ≡ false) × (b ≡ false)
or_neither true b e = absurd (true≢false e)
or_neither false b e = (refl, e)

pub none_found : {X : Type 0} (p : X → Bool) (xs : List X) → list_any p xs ≡ false → position_or_len p xs ≡ length xs
none_found p [] e = refl
none_found p (x ∷ xs) e = let h = or_neither (p x) (list_any p xs) e in missed_step (position_or_len p xs) (length xs) (p x) h.0 (none_found p xs h.1)

pub none_passes : {X : Type 0} (p : X → Bool) (xs : List X) → Each (λ x. p x ≡ false) xs → list_any p xs ≡ false
none_passes p [] h = refl
none_passes p (x ∷ xs) h = ap (λ b. b || list_any p xs) h.0 ∙ none_passes p xs h.1

pub bool_same : (a b : Bool) → (a ≡ true → b ≡ true) → (b ≡ true → a ≡ true) → a ≡ b
bool_same true b f g = sym (f refl)
bool_same false true f g = g refl
bool_same false false f g = refl

-- ---- each element where it first stands

module _ {X : Type 0} (same : X → X → Bool) where
  -- the elements with one that goes last where it isn't among them
  abbrev pub put : List X → X → List X
  put done x = cond (list_any (same x) done) done (done ++ x ∷ [])

  put_step : (b : Bool) (before done : List X) (x : X) (xs : List X) → fold put done xs ≡ done ++ first_of_each same before xs → fold put (done ++ x ∷ []) xs ≡ (done ++ x ∷ []) ++ first_of_each same (x ∷ before) xs
      → fold put (cond b done (done ++ x ∷ [])) xs ≡ done ++ cond b (first_of_each same before xs) (x ∷ first_of_each same (x ∷ before) xs)
  put_step true before done x xs e f = e
  put_step false before done x xs e f = f ∙ append_assoc done (x ∷ []) (first_of_each same (x ∷ before) xs)

  pub put_all : (before done xs : List X) → ((y : X) → list_any (same y) before ≡ list_any (same y) done) → fold put done xs ≡ done ++ first_of_each same before xs
  put_all before done [] f = sym (append-nil done)
  put_all before done (x ∷ xs) f =
      put_step (list_any (same x) done) before done x xs (put_all before done xs f)
      (put_all (x ∷ before) (done ++ x ∷ []) xs
      (λ y. ap (λ b. same y x || b) (f y ∙ sym (or_false (list_any (same y) done))) ∙ or_swapped (same y x) (list_any (same y) done) false ∙ sym (list_any-append (same y) done (x ∷ []))))
      ∙ ap (λ b. done ++ cond b (first_of_each same before xs) (x ∷ first_of_each same (x ∷ before) xs)) (sym (f x))

  module _ (P : X → Type 0) where
    each_one : (b : Bool) (done : List X) (x : X) → Each P done → P x → Each P (cond b done (done ++ x ∷ []))
    each_one true done x d h = d
    each_one false done x d h = each_append P done (x ∷ []) d (h, tt)

    pub each_put : (done xs : List X) → Each P done → Each P xs → Each P (fold put done xs)
    each_put done [] d h = d
    each_put done (x ∷ xs) d h = each_put (put done x) xs (each_one (list_any (same x) done) done x d h.0) h.1
