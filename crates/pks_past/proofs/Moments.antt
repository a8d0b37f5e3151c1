-- Going over the moments one by one.
use Rattle.std.proofs.Common.{◌≡◌, ◌≤◌, ◌+◌, ◌&&◌, ◌||◌, ℕ, zero, suc, Bool, true, false, List, [], ◌∷◌, length, drop, Some, refl, sym, ap, ◌∙◌, arith}
use Rattle.std.specs.List.{slice_get, list_all, list_any}
use Rattle.std.proofs.lemmas.Option.{same_Some}

-- what is left from a place on begins with what stands there
pub rest_from : {X : Type 0} (xs : List X) (n : ℕ) (x : X) → slice_get xs n ≡ Some x → drop n xs ≡ x ∷ drop (n + 1) xs
rest_from [] n x e = cc
rest_from (y ∷ ys) zero x e = ap (λ z. z ∷ ys) (same_Some y x e)
rest_from (y ∷ ys) (suc n) x e = let next : suc (n + 1) ≡ suc n + 1 = omega arith in rest_from ys n x e ∙ ap (λ m. x ∷ drop m (y ∷ ys)) next

pub none_left : {X : Type 0} (xs : List X) (n : ℕ) → length xs ≤ n → drop n xs ≡ []
none_left [] zero h = refl
none_left [] (suc n) h = refl
none_left (x ∷ xs) zero h = absurd (omega arith)
none_left (x ∷ xs) (suc n) h = none_left xs n (omega arith)

module _ {X : Type 0} (f : X → Bool) (xs : List X) (n : ℕ) (x : X) (there : slice_get xs n ≡ Some x) where
  pub all_after : f x ≡ true → list_all f (drop (n + 1) xs) ≡ list_all f (drop n xs)
  all_after h = sym (ap (list_all f) (rest_from xs n x there) ∙ ap (λ b. b && list_all f (drop (n + 1) xs)) h)

  pub not_all : f x ≡ false → list_all f (drop n xs) ≡ false
  not_all h = ap (list_all f) (rest_from xs n x there) ∙ ap (λ b. b && list_all f (drop (n + 1) xs)) h

  pub any_after : f x ≡ false → list_any f (drop (n + 1) xs) ≡ list_any f (drop n xs)
  any_after h = sym (ap (list_any f) (rest_from xs n x there) ∙ ap (λ b. b || list_any f (drop (n + 1) xs)) h)

  pub some_is : f x ≡ true → list_any f (drop n xs) ≡ true
  some_is h = ap (list_any f) (rest_from xs n x there) ∙ ap (λ b. b || list_any f (drop (n + 1) xs)) h
