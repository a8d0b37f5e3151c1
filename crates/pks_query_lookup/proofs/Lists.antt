-- Lists read through a function.
use Rattle.std.proofs.Common.{◌≡◌, ℕ, Bool, ◌&&◌, ◌||◌, ◌==◌, List, [], ◌∷◌, map, Option, Some, None, refl, ap, ◌++◌, append-nil, append_assoc}
use Rattle.std.specs.Cmp.Lexicographic.{pointwise}
use Rattle.std.specs.List.{list_any, list_all}
use Rattle.std.proofs.lemmas.List.{map_push, map-set}
use Rattle.std.proofs.Math.Seq.{take-set-lt}
use Rattle.pks_terms.specs.Sets.{all_some, one_replaced, Each}
use Rattle.pks_terms.specs.Databases.{same_objects}

pub same_objects-map : {X : Type 0} (v : X → ℕ) (xs ys : List X) → pointwise (λ x y. v x == v y) xs ys ≡ same_objects (map v xs) (map v ys)
same_objects-map v [] [] = refl
same_objects-map v [] (y ∷ ys) = refl
same_objects-map v (x ∷ xs) [] = refl
same_objects-map v (x ∷ xs) (y ∷ ys) = ap (λ b. (v x == v y) && b) (same_objects-map v xs ys)

pub all_some-map : {X : Type 0} (xs : List X) → all_some (map Some xs) ≡ Some xs
all_some-map [] = refl
all_some-map {X} (x ∷ xs) = ap (λ o. elim o as (λ _. Option (List X)) [ None ↦ None | Some ys ↦ Some (x ∷ ys) ]) (all_some-map xs)

pub map_same : {X : Type 0} (xs : List X) → map (λ x. x) xs ≡ xs
map_same [] = refl
map_same (x ∷ xs) = ap (λ ys. x ∷ ys) (map_same xs)

pub none_replaced : {X : Type 0} (xs : List X) → one_replaced (λ x. []) xs ≡ []
none_replaced [] = refl
none_replaced (x ∷ xs) = ap (map (λ ys. x ∷ ys)) (none_replaced xs)

pub each_push : {X : Type 0} (P : X → Type 0) (xs : List X) (y : X) → Each P xs → P y → Each P (xs ++ y ∷ [])
each_push P [] y a p = (p, tt)
each_push P (x ∷ xs) y a p = (a.0, each_push P xs y a.1 p)

pub ruleset read = (all_some-map, map_same, map_push, append_assoc, append-nil, each_push, take-set-lt, map-set)

pub list_any-map : {X Z : Type 0} (p : Z → Bool) (f : X → Z) (xs : List X) → list_any p (map f xs) ≡ list_any (λ x. p (f x)) xs
list_any-map p f [] = refl
list_any-map p f (x ∷ xs) = ap (λ b. p (f x) || b) (list_any-map p f xs)

pub list_all-map : {X Z : Type 0} (p : Z → Bool) (f : X → Z) (xs : List X) → list_all p (map f xs) ≡ list_all (λ x. p (f x)) xs
list_all-map p f [] = refl
list_all-map p f (x ∷ xs) = ap (λ b. p (f x) && b) (list_all-map p f xs)
