-- Sets as the lists of their members in order.
use Rattle.std.specs.Prelude.{◌≡◌, Bool, true, ◌&&◌, List, [], ◌∷◌, Option, Some, None, if◌then◌else◌}
use Rattle.std.specs.declared.cmp.Ordering.{Ordering}
use Rattle.std.specs.Ordering.{is_eq, is_gt, is_lt}
use Rattle.std.specs.List.{list_any}
use Rattle.std.specs.Fn.{Shared}
use Rattle.std.specs.Borrow.{Bor}
use Rattle.pks_terms.specs.Sets.{Each}

-- x is a member
abbrev pub is_member : {X : Type 0} → (X → X → Ordering) → X → List X → Bool
is_member R x xs = list_any (λ y. is_eq (R x y)) xs

-- the first member that is not below x
abbrev pub first_at_least : {X : Type 0} → (X → X → Ordering) → X → List X → Option X
first_at_least R x [] = None
first_at_least R x (y ∷ ys) = if is_gt (R x y) then first_at_least R x ys else Some y

-- each element is below the next, beginning with x
abbrev pub rises_from : {X : Type 0} → (X → X → Ordering) → X → List X → Bool
rises_from R x [] = true
rises_from R x (y ∷ ys) = is_lt (R x y) && rises_from R y ys

-- each element is below the next
abbrev pub rises : {X : Type 0} → (X → X → Ordering) → List X → Bool
rises R [] = true
rises R (x ∷ xs) = rises_from R x xs

-- the keys of a map's entries
abbrev pub keys : {K V : Type 0} → List (K × V) → List K
keys [] = []
keys (e ∷ es) = e.0 ∷ keys es

-- f may be called at a reference to x
abbrev pub TakesAt : {F X R : Type 0} → Shared F (Bor X × Unit {0}) R → F → X → Type 0
TakesAt {X = X} g f x = (p : Bor X) → p.now ≡ x → g.pre f (p, tt)

-- f may be called at each element
pub record TakesEach {F X R : Type 0} (g : Shared F (Bor X × Unit {0}) R) (f : F) (xs : List X) : Type 0 where
  pub each : Each (TakesAt g f) xs
