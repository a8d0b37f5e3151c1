-- The count of the arguments in use.
use Rattle.std.proofs.Common.{◌≡◌, ◌∙◌, ℕ, zero, suc, List, [], ◌∷◌, length, take, refl, sym, ap}
use Rattle.std.proofs.lemmas.List.{length-map}
use Rattle.pks_terms.specs.declared.ids.TypeId.{TypeId}
use Rattle.pks_terms.specs.Views.{types_of}

take_taken : {X : Type 0} (n : ℕ) (xs : List X) → take (length (take n xs)) xs ≡ take n xs
take_taken zero [] = refl
take_taken zero (x ∷ xs) = refl
take_taken (suc n) [] = refl
take_taken {X = X} (suc n) (x ∷ xs) = ap (λ (ys : List X). x ∷ ys) (take_taken n xs)

-- so many places in use are the same arguments
pub counted_same : (m n : ℕ) (xs : List TypeId) → m ≡ length (take n xs) → types_of (take m xs) ≡ types_of (take n xs)
counted_same m n xs is = ap (λ (k : ℕ). types_of (take k xs)) is ∙ ap types_of (take_taken n xs)

-- and as many
pub counted_length : (m n : ℕ) (xs : List TypeId) → m ≡ length (take n xs) → m ≡ length (types_of (take m xs))
counted_length m n xs is = is ∙ sym (length-map (take n xs) (λ (t : TypeId). t.0)) ∙ ap length (sym (counted_same m n xs is))
