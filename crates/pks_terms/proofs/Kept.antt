-- What holds of each element of a front.
use Rattle.std.proofs.Common.{◌≡◌, ◌++◌, subst, ℕ, zero, suc, List, [], ◌∷◌, Some, map, take, drop, refl, length, arith, get_or, slice_get}
use Rattle.pks_terms.specs.Sets.{Each}

module _ {X Y : Type 0} (P : X → Type 0) (Q : Y → Type 0) where
  -- two changed elements are as wanted where the old ones were
  pub kept_two : (xs : List X) (d : X) (a b : Y) (n : ℕ) → length xs ≡ 2 → (P (get_or xs 0 d) → Q a) → (P (get_or xs 1 d) → Q b) → Each P (take n xs) → Each Q (take n (a ∷ b ∷ []))
  kept_two [] d a b n h p q each = absurd (omega arith)
  kept_two (x ∷ []) d a b n h p q each = absurd (omega arith)
  kept_two (x ∷ y ∷ z ∷ zs) d a b n h p q each = absurd (omega arith)
  kept_two (x ∷ y ∷ []) d a b zero h p q each = tt
  kept_two (x ∷ y ∷ []) d a b (suc zero) h p q each = (p each.0, tt)
  kept_two (x ∷ y ∷ []) d a b (suc (suc zero)) h p q each = (p each.0, (q each.1.0, tt))
  kept_two (x ∷ y ∷ []) d a b (suc (suc (suc n))) h p q each = (p each.0, (q each.1.0, tt))

  -- and three
  pub kept_three : (xs : List X) (d : X) (a b c : Y) (n : ℕ) → length xs ≡ 3 → (P (get_or xs 0 d) → Q a) → (P (get_or xs 1 d) → Q b) → (P (get_or xs 2 d) → Q c) → Each P (take n xs) → Each Q (take n (a ∷ b ∷ c ∷ []))
  kept_three [] d a b c n h p q r each = absurd (omega arith)
  kept_three (x ∷ []) d a b c n h p q r each = absurd (omega arith)
  kept_three (x ∷ y ∷ []) d a b c n h p q r each = absurd (omega arith)
  kept_three (x ∷ y ∷ z ∷ w ∷ zs) d a b c n h p q r each = absurd (omega arith)
  kept_three (x ∷ y ∷ z ∷ []) d a b c zero h p q r each = tt
  kept_three (x ∷ y ∷ z ∷ []) d a b c (suc zero) h p q r each = (p each.0, tt)
  kept_three (x ∷ y ∷ z ∷ []) d a b c (suc (suc zero)) h p q r each = (p each.0, (q each.1.0, tt))
  kept_three (x ∷ y ∷ z ∷ []) d a b c (suc (suc (suc zero))) h p q r each = (p each.0, (q each.1.0, (r each.1.1.0, tt)))
  kept_three (x ∷ y ∷ z ∷ []) d a b c (suc (suc (suc (suc n)))) h p q r each = (p each.0, (q each.1.0, (r each.1.1.0, tt)))

module _ {X : Type 0} (P : X → Type 0) where
  -- of the element at a place
  pub each_get : (xs : List X) (k : ℕ) (x : X) → slice_get xs k ≡ Some x → Each P xs → P x
  each_get [] k x e each = absurd (cc)
  each_get (y ∷ ys) zero x e each = let same : y ≡ x = cc in subst P same each.0
  each_get (y ∷ ys) (suc k) x e each = each_get ys k x e each.1

  -- of a list with a new element
  pub each_put_in : (k : ℕ) (xs : List X) (x : X) → P x → Each P xs → Each P (take k xs ++ x ∷ drop k xs)
  each_put_in zero xs x p each = (p, each)
  each_put_in (suc k) [] x p each = (p, tt)
  each_put_in (suc k) (y ∷ ys) x p each = (each.0, each_put_in k ys x p each.1)

  -- of a front
  pub each_taken : (n : ℕ) (xs : List X) → Each P xs → Each P (take n xs)
  each_taken zero xs each = tt
  each_taken (suc n) [] each = tt
  each_taken (suc n) (x ∷ xs) each = (each.0, each_taken n xs each.1)

-- a list with a new element, seen through a function
pub map-put_in : {X Y : Type 0} (v : X → Y) (k : ℕ) (xs : List X) (x : X) → map v (take k xs ++ x ∷ drop k xs) ≡ take k (map v xs) ++ v x ∷ drop k (map v xs)
map-put_in v zero xs x = refl
map-put_in v (suc k) [] x = refl
map-put_in v (suc k) (y ∷ ys) x = λ i. v y ∷ map-put_in v k ys x i
