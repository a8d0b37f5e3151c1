-- What is read off lists.
use Rattle.std.proofs.Common.{◌≡◌, ℕ, zero, suc, List, [], ◌∷◌, map, take, length, get_or, flat_map, append_assoc, append-nil, arith, refl}
use Rattle.std.proofs.lemmas.List.{map-append}
use Rattle.std.proofs.lemmas.List.Folds.{list_all-append}

pub none_of_each : {X Y : Type 0} (xs : List X) → flat_map {A = Y} (λ x. []) xs ≡ []
none_of_each [] = refl
none_of_each (x ∷ xs) = none_of_each xs

-- the front of four changed elements
pub mapped_four :
    {X Z : Type 0} (v : X → Z) (f : Z → Z) (xs : List X) (d a b c e : X) (n : ℕ)
    → length xs ≡ 4
    → v a ≡ f (v (get_or xs 0 d))
    → v b ≡ f (v (get_or xs 1 d))
    → v c ≡ f (v (get_or xs 2 d))
    → v e ≡ f (v (get_or xs 3 d))
    → map v (take n (a ∷ b ∷ c ∷ e ∷ [])) ≡ map f (map v (take n xs))
mapped_four v f [] d a b c e n h p q r s = absurd (omega arith)
mapped_four v f (x ∷ []) d a b c e n h p q r s = absurd (omega arith)
mapped_four v f (x ∷ y ∷ []) d a b c e n h p q r s = absurd (omega arith)
mapped_four v f (x ∷ y ∷ z ∷ []) d a b c e n h p q r s = absurd (omega arith)
mapped_four v f (x ∷ y ∷ z ∷ w ∷ u ∷ us) d a b c e n h p q r s = absurd (omega arith)
mapped_four v f (x ∷ y ∷ z ∷ w ∷ []) d a b c e zero h p q r s = refl
mapped_four v f (x ∷ y ∷ z ∷ w ∷ []) d a b c e (suc zero) h p q r s = λ i. p i ∷ []
mapped_four v f (x ∷ y ∷ z ∷ w ∷ []) d a b c e (suc (suc zero)) h p q r s = λ i. p i ∷ q i ∷ []
mapped_four v f (x ∷ y ∷ z ∷ w ∷ []) d a b c e (suc (suc (suc zero))) h p q r s = λ i. p i ∷ q i ∷ r i ∷ []
mapped_four v f (x ∷ y ∷ z ∷ w ∷ []) d a b c e (suc (suc (suc (suc zero)))) h p q r s = λ i. p i ∷ q i ∷ r i ∷ s i ∷ []
mapped_four v f (x ∷ y ∷ z ∷ w ∷ []) d a b c e (suc (suc (suc (suc (suc n))))) h p q r s = λ i. p i ∷ q i ∷ r i ∷ s i ∷ []

pub ruleset read = (none_of_each, list_all-append, map-append, append_assoc, append-nil)
