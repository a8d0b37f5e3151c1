-- Texts that are appended part by part.
use Rattle.std.proofs.Common.{◌≡◌, ◌+◌, ◌≤◌, ℕ, zero, suc, List, [], ◌∷◌, ◌++◌, length, drop, Some, append_assoc, append-nil, refl, sym, ap, ◌∙◌, arith}
use Rattle.std.specs.List.{flat_map, slice_get}
use Rattle.std.proofs.lemmas.Option.{same_Some}
use Rattle.pks_terms.specs.Branching.{numbered}

-- one text behind another
pub both_appended : (old mid new a b : List ℕ) → mid ≡ old ++ a → new ≡ mid ++ b → new ≡ old ++ (a ++ b)
both_appended old mid new a b e f = f ∙ (ap (λ x. x ++ b) e ∙ append_assoc old a b)

pub ruleset appended = (append_assoc, append-nil)

-- what is left from a place on begins with what stands there
pub rest_from : {X : Type 0} (xs : List X) (n : ℕ) (x : X) → slice_get xs n ≡ Some x → drop n xs ≡ x ∷ drop (n + 1) xs
rest_from [] n x e = cc
rest_from (y ∷ ys) zero x e = ap (λ z. z ∷ ys) (same_Some y x e)
rest_from (y ∷ ys) (suc n) x e = let next : suc (n + 1) ≡ suc n + 1 = omega arith in rest_from ys n x e ∙ ap (λ m. x ∷ drop m (y ∷ ys)) next

pub none_left : {X : Type 0} (xs : List X) (n : ℕ) → length xs ≤ n → drop n xs ≡ []
none_left [] zero h = refl
none_left [] (suc n) h = refl
none_left (x ∷ xs) zero h = absurd (omega arith)
none_left (x ∷ xs) (suc n) h = none_left xs n (omega arith)

-- the numbered texts from a place on, and those of the next place on
module _ {X : Type 0} (text : ℕ × X → List ℕ) (first : ℕ) (xs : List X) where
  -- the texts of what is left, behind which so many have gone
  abbrev pub left_text : ℕ → List ℕ
  left_text n = flat_map text (numbered (first + n) (drop n xs))

  pub all_left : left_text 0 ≡ flat_map text (numbered first xs)
  all_left = let none : first + 0 ≡ first = omega arith in ap (λ m. flat_map text (numbered m xs)) none

  pub next_left : (n : ℕ) (x : X) → slice_get xs n ≡ Some x → left_text n ≡ text (first + n, x) ++ left_text (n + 1)
  next_left n x there =
      let next : first + n + 1 ≡ first + (n + 1) = omega arith in
      ap (λ ys. flat_map text (numbered (first + n) ys)) (rest_from xs n x there) ∙ ap (λ m. text (first + n, x) ++ flat_map text (numbered m (drop (n + 1) xs))) next

  pub nothing_left : (n : ℕ) → length xs ≤ n → left_text n ≡ []
  nothing_left n h = ap (λ ys. flat_map text (numbered (first + n) ys)) (none_left xs n h)

  -- one more was told, which has this number
  pub one_told : (n k : ℕ) (x : X) (out new whole : List ℕ) → first + n ≡ k → slice_get xs n ≡ Some x → new ≡ out ++ text (k, x) → out ++ left_text n ≡ whole → new ++ left_text (n + 1) ≡ whole
  one_told n k x out new whole same there e done =
      ap (λ y. y ++ left_text (n + 1)) e
      ∙ (append_assoc out (text (k, x)) (left_text (n + 1)) ∙ (ap (λ m. out ++ (text (m, x) ++ left_text (n + 1))) (sym same) ∙ (ap (λ y. out ++ y) (sym (next_left n x there)) ∙ done)))
