-- Lists that are the same but for one element, which may stand in another place, walked from the left.
use Rattle.std.specs.Prelude.{Bool, false, ◌&&◌, ◌||◌, List, [], ◌∷◌, Option, Some, None, if◌then◌else◌}
use Rattle.std.specs.Option.{option_map_or}
use Rattle.std.specs.declared.cmp.Ordering.{Ordering}
use Rattle.std.specs.Ordering.{is_eq}
use Rattle.std.specs.Cmp.Lexicographic.{slice_cmp}

-- the list behind its first element, where that passes
abbrev pub behind_first : {X : Type 0} → (X → Bool) → List X → Option (List X)
behind_first p [] = None
behind_first p (x ∷ xs) = if p x then Some xs else None

-- the second list is the first with one more element, which passes
abbrev pub joins : {X : Type 0} → (X → Bool) → (X → X → Ordering) → List X → List X → Bool
joins p R g [] = false
joins p R g (k ∷ h) = (p k && is_eq (slice_cmp R g h)) || option_map_or (λ xs. joins p R xs h) (behind_first (λ x. is_eq (R x k)) g) false

-- the second list is the first without one element, which passes
abbrev pub leaves : {X : Type 0} → (X → Bool) → (X → X → Ordering) → List X → List X → Bool
leaves p R [] h = false
leaves p R (x ∷ g) h = (p x && is_eq (slice_cmp R g h)) || option_map_or (λ ys. leaves p R g ys) (behind_first (λ y. is_eq (R x y)) h) false

-- the second list is x and the first without one element, which passes
abbrev pub leaves_behind : {X : Type 0} → (X → Bool) → (X → X → Ordering) → X → List X → List X → Bool
leaves_behind p R x g h = option_map_or (λ ys. leaves p R g ys) (behind_first (λ y. is_eq (R x y)) h) false

-- the second list begins with an element that one of the first may become, and goes on as x and the first without that one
abbrev pub becomes_first : {X : Type 0} → (X → X → Bool) → (X → X → Ordering) → X → List X → List X → Bool
becomes_first S R x g [] = false
becomes_first S R x g (k ∷ h) = leaves_behind (λ l. S l k) R x g h

-- the second list is the first with one element in place of another, which may become it
abbrev pub exchanges : {X : Type 0} → (X → X → Bool) → (X → X → Ordering) → List X → List X → Bool
exchanges S R [] h = false
exchanges S R (x ∷ g) h = (joins (S x) R g h || becomes_first S R x g h) || option_map_or (λ ys. exchanges S R g ys) (behind_first (λ y. is_eq (R x y)) h) false
