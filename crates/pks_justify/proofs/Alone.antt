-- The one element of a list that passes a test.
use Rattle.std.proofs.Common.{◌≡◌, ◌||◌, ◌&&◌, ◌∙◌, not, cond, Bool, true, false, List, [], ◌∷◌, Some, None, ap, refl}
use Rattle.std.specs.List.{list_any, filter}
use Rattle.std.specs.Option.{option_map_or}
use Rattle.pks_terms.specs.Justified.{single}
use Rattle.pks_justify.specs.Effects.{only_one}

module _ {X : Type 0} (p : X → Bool) where
  only : (x : X) (xs : List X) → single (x ∷ filter p xs) ≡ cond (list_any p xs) None (Some x)
  only x [] = refl
  only x (y ∷ ys) =
      elim (p y) as (λ b. single (x ∷ cond b (y ∷ filter p ys) (filter p ys)) ≡ cond (b || list_any p ys) None (Some x)) [ true ↦ refl | false ↦ only x ys ]

  settled : (d : X → Bool) (x : X) (b : Bool) → option_map_or d (cond b None (Some x)) false ≡ (not b && d x)
  settled d x b = elim b as (λ b. option_map_or d (cond b None (Some x)) false ≡ (not b && d x)) [ true ↦ refl | false ↦ refl ]

  pub only_single : (d : X → Bool) (xs : List X) → option_map_or d (single (filter p xs)) false ≡ only_one p d xs
  only_single d [] = refl
  only_single d (x ∷ xs) =
      elim (p x) as (λ b. option_map_or d (single (cond b (x ∷ filter p xs) (filter p xs))) false ≡ cond b (not (list_any p xs) && d x) (only_one p d xs)) [
        | true ↦ ap (λ o. option_map_or d o false) (only x xs) ∙ settled d x (list_any p xs)
        | false ↦ only_single d xs
      ]
