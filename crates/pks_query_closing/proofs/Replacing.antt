-- One element of a list is replaced, place after place.
use Rattle.std.proofs.Common.{◌≡◌, ℕ, ◌+◌, ◌<◌, ◌≤◌, List, [], ◌∷◌, ◌++◌, map, take, drop, length, get_or, slice_set, refl, sym, ap, ◌∙◌, add-one, append_assoc, min, arith}
use Rattle.std.proofs.lemmas.List.{map-append, set_split, take_more, drop_all, length-take, length-map}
use Rattle.pks_terms.specs.Sets.{one_replaced}
use Rattle.pks_terms.proofs.ListLaws.{map-map, map_alike}
use Rattle.pks_query_lookup.proofs.Lists.{map_same}
use Rattle.pks_query_closing.specs.Reading.{replaced_from}

pub drop_from : {X : Type 0} (xs : List X) (i : ℕ) (d : X) → i < length xs → drop i xs ≡ get_or xs i d ∷ drop (i + 1) xs
drop_from xs i d h = rw add-one (Rattle.std.proofs.Math.Seq.drop-cons xs i d h)

module _ {X : Type 0} (step : X → List X) where
  pub replaced_from_start : (xs : List X) → replaced_from step 0 xs ≡ one_replaced step xs
  replaced_from_start xs = map_same (one_replaced step xs)

  pub replaced_from_end : (xs : List X) (i : ℕ) → length xs ≤ i → replaced_from step i xs ≡ []
  replaced_from_end xs i h = rw (drop_all i xs h) refl

  pub replaced_from_more : (xs : List X) (i : ℕ) (d : X) → i < length xs → replaced_from step i xs ≡ map (slice_set xs i) (step (get_or xs i d)) ++ replaced_from step (i + 1) xs
  replaced_from_more xs i d h =
      ap (λ zs. map (λ ys. take i xs ++ ys) (one_replaced step zs)) (drop_from xs i d h)
      ∙ map-append (λ ys. take i xs ++ ys) (map (λ y. y ∷ drop (i + 1) xs) (step (get_or xs i d))) (map (λ ys. get_or xs i d ∷ ys) (one_replaced step (drop (i + 1) xs)))
      ∙ (λ k. here k ++ later k)
    where
      here : map (λ ys. take i xs ++ ys) (map (λ y. y ∷ drop (i + 1) xs) (step (get_or xs i d))) ≡ map (slice_set xs i) (step (get_or xs i d))
      here =
          map-map (λ y. y ∷ drop (i + 1) xs) (λ ys. take i xs ++ ys) (step (get_or xs i d))
          ∙ map_alike (λ y. take i xs ++ y ∷ drop (i + 1) xs) (slice_set xs i) (λ y. sym (rw add-one (set_split xs i y h))) (step (get_or xs i d))

      later : map (λ ys. take i xs ++ ys) (map (λ ys. get_or xs i d ∷ ys) (one_replaced step (drop (i + 1) xs))) ≡ map (λ ys. take (i + 1) xs ++ ys) (one_replaced step (drop (i + 1) xs))
      later =
          map-map (λ ys. get_or xs i d ∷ ys) (λ ys. take i xs ++ ys) (one_replaced step (drop (i + 1) xs))
          ∙ map_alike (λ ys. take i xs ++ get_or xs i d ∷ ys) (λ ys. take (i + 1) xs ++ ys) (λ ys. sym (rw (take_more xs i d h) (append_assoc (take i xs) (get_or xs i d ∷ []) ys))) (one_replaced step (drop (i + 1) xs))

-- what is read of the front
pub get_or-front : {X Z : Type 0} (v : X → Z) (xs : List X) (n i : ℕ) (d : X) → i < n → get_or (map v (take n xs)) i (v d) ≡ v (get_or xs i d)
get_or-front v xs n i d h = Rattle.std.proofs.Math.ListN.get_or-map v (take n xs) i d ∙ ap v (Rattle.std.proofs.lemmas.List.get_or-take n xs i d h)

pub within_front : {X Z : Type 0} (v : X → Z) (xs : List X) (n i k : ℕ) → length xs ≡ k → i < min n k → i < length (map v (take n xs))
within_front v xs n i k h l = simp (length-map, length-take) (rw h l)

pub past_front : {X Z : Type 0} (v : X → Z) (xs : List X) (n i k : ℕ) → length xs ≡ k → min n k ≤ i → length (map v (take n xs)) ≤ i
past_front v xs n i k h l = simp (length-map, length-take) (rw h l)

pub front_below : {X Z : Type 0} (v : X → Z) (xs : List X) (n i : ℕ) → i < length (map v (take n xs)) → i < n
front_below v xs n i h = let k = simp (length-map, length-take) at h in omega arith

pub front_inside : {X Z : Type 0} (v : X → Z) (xs : List X) (n i : ℕ) → i < length (map v (take n xs)) → i < length xs
front_inside v xs n i h = let k = simp (length-map, length-take) at h in omega arith

-- the rest of a list that is read through a function
pub map_drop_from : {X Z : Type 0} (v : X → Z) (ys : List X) (i : ℕ) (y : X) → i < length ys → y ≡ get_or ys i y → drop i (map v ys) ≡ v y ∷ drop (i + 1) (map v ys)
map_drop_from v ys i y h e =
    drop_from (map v ys) i (v y) (simp length-map h) ∙ ap (λ z. z ∷ drop (i + 1) (map v ys)) (Rattle.std.proofs.Math.ListN.get_or-map v ys i y ∙ ap v (sym e))
