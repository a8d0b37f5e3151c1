-- Lists that grow at the end.
use Rattle.std.proofs.Common.{◌≡◌, List, [], ◌∷◌, ◌++◌, map, refl, ap, append-nil}
use Rattle.pks_terms.specs.Sets.{Each}

pub pushed : {X Y : Type 0} (v : X → Y) (xs : List X) (x : X) (ys : List Y) → map v (xs ++ x ∷ []) ++ ys ≡ map v xs ++ v x ∷ ys
pushed v [] x ys = refl
pushed {Y = Y} v (z ∷ xs) x ys = ap (λ (zs : List Y). v z ∷ zs) (pushed v xs x ys)

pub each_pushed : {X : Type 0} (P : X → Type 0) (xs : List X) (x : X) → Each P xs → P x → Each P (xs ++ x ∷ [])
each_pushed P [] x before now = (now, tt {0})
each_pushed P (z ∷ xs) x before now = (before.0, each_pushed P xs x before.1 now)

pub to_the_end : {X : Type 0} (xs : List X) → xs ++ [] ≡ xs
to_the_end xs = append-nil xs

pub one_more : {X : Type 0} (xs : List X) (x : X) (ys : List X) → (xs ++ x ∷ []) ++ ys ≡ xs ++ x ∷ ys
one_more [] x ys = refl
one_more {X = X} (z ∷ xs) x ys = ap (λ (zs : List X). z ∷ zs) (one_more xs x ys)
