-- The members of groups, and the others.
use Rattle.std.proofs.Common.{◌≡◌, ℕ, ◌+◌, ◌<◌, ◌≤◌, Bool, true, false, ◌&&◌, List, [], ◌∷◌, ◌++◌, map, take, drop, length, refl, sym, ap, ◌∙◌, append_assoc, append-nil, zero, suc, add-one}
use Rattle.std.specs.List.{list_all}
use Rattle.std.proofs.lemmas.List.{map-append, map_push, drop_all}
use Rattle.pks_terms.specs.Sets.{with_others}
use Rattle.pks_query_closing.specs.Reading.{others_from}
use Rattle.pks_terms.proofs.ListLaws.{map-map, map_alike}

pub list_all-append : {X : Type 0} (p : X → Bool) (xs ys : List X) → list_all p (xs ++ ys) ≡ (list_all p xs && list_all p ys)
list_all-append p [] ys = refl
list_all-append p (x ∷ xs) ys =
    elim (p x) as (λ b. (b && list_all p (xs ++ ys)) ≡ ((b && list_all p xs) && list_all p ys)) [ true ↦ list_all-append p xs ys | false ↦ refl ]

pub ruleset members = (list_all-append, map-append, append_assoc, append-nil, map_push)

module _ {X : Type 0} where
  same_pairs : (xs : List (X × List X)) → map (λ p. (p.0, p.1)) xs ≡ xs
  same_pairs [] = refl
  same_pairs (p ∷ ps) = ap (λ qs. p ∷ qs) (same_pairs ps)

  pub others_from-start : (xs : List X) → others_from 0 xs ≡ with_others xs
  others_from-start xs = same_pairs (with_others xs)

  pub others_from-end : (xs : List X) (i : ℕ) → length xs ≤ i → others_from i xs ≡ []
  others_from-end xs i h = rw (drop_all i xs h) refl

split_parts : {X : Type 0} (xs : List X) (i : ℕ) (x : X) (r : List X) → drop i xs ≡ x ∷ r → (take (suc i) xs ≡ take i xs ++ x ∷ []) × (drop (suc i) xs ≡ r)
split_parts [] zero x r e = cc
split_parts [] (suc i) x r e = cc
split_parts (y ∷ ys) zero x r e = (cc, cc)
split_parts (y ∷ ys) (suc i) x r e = let p = split_parts ys i x r e in (ap (λ zs. y ∷ zs) p.0, p.1)

pub others_from-split : {X : Type 0} (xs : List X) (i : ℕ) (x : X) (r : List X) → drop i xs ≡ x ∷ r → others_from i xs ≡ (x, take i xs ++ r) ∷ others_from (i + 1) xs
others_from-split {X} xs i x r e =
    let p = split_parts xs i x r e in
    ap (λ zs. map (λ p. (p.0, take i xs ++ p.1)) (with_others zs)) e
    ∙ ap (λ qs. (x, take i xs ++ r) ∷ qs)
    (map-map (λ p. (p.0, x ∷ p.1)) (λ p. (p.0, take i xs ++ p.1)) (with_others r)
    ∙ map_alike (λ p. (p.0, take i xs ++ x ∷ p.1)) (λ p. (p.0, take (i + 1) xs ++ p.1)) (λ q. ap (λ ys. (q.0, ys)) (sym (rw (add-one, p.0) (append_assoc (take i xs) (x ∷ []) q.1)))) (with_others r)
    ∙ ap (λ zs. map (λ p. (p.0, take (i + 1) xs ++ p.1)) (with_others zs)) (sym (rw add-one p.1)))

pub drop-map : {X Y : Type 0} (v : X → Y) (i : ℕ) (xs : List X) → drop i (map v xs) ≡ map v (drop i xs)
drop-map v zero xs = refl
drop-map v (suc i) [] = refl
drop-map v (suc i) (x ∷ xs) = drop-map v i xs
