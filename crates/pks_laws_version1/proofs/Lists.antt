-- Walks of lists that give the same where what they ask of each element does.
use Rattle.std.proofs.Common.{◌≡◌, ◌&&◌, ◌||◌, ◌++◌, Bool, cond, List, [], ◌∷◌, map, filter, filter_map, flat_map, Option, Some, refl}
use Rattle.std.specs.List.{list_any, find, cons_option}
use Rattle.pks_terms.specs.Sets.{Each}

pub or_same : (a b c d : Bool) → a ≡ b → c ≡ d → (a || c) ≡ (b || d)
or_same a b c d p q = λ i. p i || q i

pub and_same : (a b c d : Bool) → a ≡ b → c ≡ d → (a && c) ≡ (b && d)
and_same a b c d p q = λ i. p i && q i

pub any_same : {X : Type 0} (p q : X → Bool) (xs : List X) → Each (λ x. p x ≡ q x) xs → list_any p xs ≡ list_any q xs
any_same p q [] a = refl
any_same p q (x ∷ xs) a = or_same (p x) (q x) (list_any p xs) (list_any q xs) a.0 (any_same p q xs a.1)

pub filter_same : {X : Type 0} (p q : X → Bool) (xs : List X) → Each (λ x. p x ≡ q x) xs → filter p xs ≡ filter q xs
filter_same p q [] a = refl
filter_same p q (x ∷ xs) a = λ i. cond (a.0 i) (x ∷ filter_same p q xs a.1 i) (filter_same p q xs a.1 i)

pub map_same : {X Y : Type 0} (f g : X → Y) (xs : List X) → Each (λ x. f x ≡ g x) xs → map f xs ≡ map g xs
map_same f g [] a = refl
map_same f g (x ∷ xs) a = λ i. a.0 i ∷ map_same f g xs a.1 i

pub flat_map_same : {X Y : Type 0} (f g : X → List Y) (xs : List X) → Each (λ x. f x ≡ g x) xs → flat_map f xs ≡ flat_map g xs
flat_map_same f g [] a = refl
flat_map_same f g (x ∷ xs) a = λ i. a.0 i ++ flat_map_same f g xs a.1 i

pub filter_map_same : {X Y : Type 0} (f g : X → Option Y) (xs : List X) → Each (λ x. f x ≡ g x) xs → filter_map f xs ≡ filter_map g xs
filter_map_same f g [] a = refl
filter_map_same f g (x ∷ xs) a = λ i. cons_option (a.0 i) (filter_map_same f g xs a.1 i)

pub find_same : {X : Type 0} (p q : X → Bool) (xs : List X) → Each (λ x. p x ≡ q x) xs → find p xs ≡ find q xs
find_same p q [] a = refl
find_same p q (x ∷ xs) a = λ i. cond (a.0 i) (Some x) (find_same p q xs a.1 i)
