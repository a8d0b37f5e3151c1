-- Fronts of lists that are changed element by element.
use Rattle.std.proofs.Common.{◌≡◌, ℕ, List, [], ◌∷◌, map, take, length, get_or, arith, refl, sym, ap, ◌∙◌}
use Rattle.std.proofs.lemmas.List.{take-map}

-- where the elements are the changed ones, so are those at the front
pub front_known : {X Y Z W : Type 0} (v : X → Z) (g : Y → W) (f : W → Z) (qs : List X) (xs : List Y) (n : ℕ) → map v qs ≡ map f (map g xs) → map v (take n qs) ≡ map f (map g (take n xs))
front_known v g f qs xs n e = sym (take-map v n qs) ∙ ap (take n) e ∙ take-map f n (map g xs) ∙ ap (map f) (take-map g n xs)

-- the four elements of a list of four
pub four_are : {X Y : Type 0} (f : X → Y) (xs : List X) (d : X) → length xs ≡ 4 → f (get_or xs 0 d) ∷ f (get_or xs 1 d) ∷ f (get_or xs 2 d) ∷ f (get_or xs 3 d) ∷ [] ≡ map f xs
four_are f [] d e = absurd (omega (arith, e))
four_are f (x ∷ []) d e = absurd (omega (arith, e))
four_are f (x ∷ y ∷ []) d e = absurd (omega (arith, e))
four_are f (x ∷ y ∷ z ∷ []) d e = absurd (omega (arith, e))
four_are f (x ∷ y ∷ z ∷ w ∷ []) d e = refl
four_are f (x ∷ y ∷ z ∷ w ∷ u ∷ us) d e = absurd (omega (arith, e))
