-- Choices of forms, one place after another.
use Rattle.std.proofs.Common.{◌≡◌, ℕ, ◌+◌, ◌<◌, ◌≤◌, Bool, true, false, ◌&&◌, List, [], ◌∷◌, ◌++◌, map, take, drop, length, get_or, slice_set, flat_map, filter, refl, sym, ap, ◌∙◌, cond, append_assoc, append-nil, arith}
use Rattle.std.specs.List.{list_all}
use Rattle.std.proofs.lemmas.List.{map-append, map-id, drop_all, take_all, drop_more, take_more_set, drop-set-lt, set-get_or, map-set, get_or-map, get_or-take, length-map, length-take}
use Rattle.std.proofs.lemmas.List.Elements.{filter-append}
use Rattle.std.proofs.lemmas.List.Folds.{flat_map-map}
use Rattle.std.proofs.Math.Seq.{take-set-lt}
use Rattle.pks_pmap_set.proofs.Mapped.{map-filter}
use Rattle.pks_terms.specs.Sets.{choices_from}
use Rattle.pks_postdict_rules.specs.Choosing.{choices_after}
use Rattle.pks_terms.proofs.ListLaws.{map-map, map_alike, flat_map_alike}

map-flat_map : {X Y Z : Type 0} (f : Y → Z) (g : X → List Y) (xs : List X) → map f (flat_map g xs) ≡ flat_map (λ x. map f (g x)) xs
map-flat_map f g [] = refl
map-flat_map f g (x ∷ xs) = map-append f (g x) (flat_map g xs) ∙ ap (λ zs. map f (g x) ++ zs) (map-flat_map f g xs)

module _ {X : Type 0} (forms : X → List X) where
  -- from the first place on
  pub choices_start : (xs : List X) → choices_after forms 0 xs ≡ choices_from (map forms xs)
  choices_start xs = map-id (choices_from (map forms xs))

  -- past the last place there is one choice
  pub choices_end : (xs : List X) (k : ℕ) → length xs ≤ k → choices_after forms k xs ≡ xs ∷ []
  choices_end xs k h = rw (drop_all k xs h, take_all k xs h, append-nil) refl

  step : (xs : List X) (k : ℕ) → k < length xs → (y : X) → map (λ ys. take k xs ++ ys) (map (λ ys. y ∷ ys) (choices_from (map forms (drop (k + 1) xs)))) ≡ choices_after forms (k + 1) (slice_set xs k y)
  step xs k h y =
      map-map (λ ys. y ∷ ys) (λ ys. take k xs ++ ys) (choices_from (map forms (drop (k + 1) xs)))
      ∙ map_alike (λ ys. take k xs ++ y ∷ ys) (λ ys. take (k + 1) (slice_set xs k y) ++ ys) (λ ys. sym (rw (take_more_set xs k y h) (append_assoc (take k xs) (y ∷ []) ys))) (choices_from (map forms (drop (k + 1) xs)))
      ∙ ap (λ zs. map (λ ys. take (k + 1) (slice_set xs k y) ++ ys) (choices_from (map forms zs))) (sym (drop-set-lt (k + 1) xs k y (omega arith)))

  -- each form at a place, with the choices after it
  pub choices_more : (xs : List X) (k : ℕ) (d : X) → k < length xs → choices_after forms k xs ≡ flat_map (λ y. choices_after forms (k + 1) (slice_set xs k y)) (forms (get_or xs k d))
  choices_more xs k d h =
      ap (λ zs. map (λ ys. take k xs ++ ys) (choices_from (map forms zs))) (drop_more xs k d h)
      ∙ map-flat_map (λ ys. take k xs ++ ys) (λ x. map (λ ys. x ∷ ys) (choices_from (map forms (drop (k + 1) xs)))) (forms (get_or xs k d))
      ∙ flat_map_alike _ _ (step xs k h) (forms (get_or xs k d))

  -- the element itself and the other forms of it
  pub choices_own : (xs : List X) (k : ℕ) (d x : X) (ys : List X) → k < length xs → get_or xs k d ≡ x → x ∷ ys ≡ forms x
      → choices_after forms k xs ≡ choices_after forms (k + 1) xs ++ flat_map (λ y. choices_after forms (k + 1) (slice_set xs k y)) ys
  choices_own xs k d x ys h e own =
      choices_more xs k d h
      ∙ ap (flat_map (λ y. choices_after forms (k + 1) (slice_set xs k y))) (ap forms e ∙ sym own)
      ∙ ap (λ zs. choices_after forms (k + 1) zs ++ flat_map (λ y. choices_after forms (k + 1) (slice_set xs k y)) ys) (ap (slice_set xs k) (sym e) ∙ set-get_or xs k d)

module _ {X Z : Type 0} (v : X → Z) where
  -- the places of an array that are in use
  pub front_within : (xs : List X) (n k m : ℕ) → length xs ≡ m → k < n → k < m → k < length (map v (take n xs))
  front_within xs n k m e h l = simp (length-map, length-take) (omega arith)

  pub front_at : (xs : List X) (n k : ℕ) (d : X) → k < n → k < length (map v (take n xs)) → get_or (map v (take n xs)) k (v d) ≡ v (get_or xs k d)
  front_at xs n k d h l = get_or-map v (take n xs) k d (v d) (simp length-map at l) ∙ ap v (get_or-take n xs k d h)

  pub front_set : (xs : List X) (n k : ℕ) (y : X) → k < n → map v (take n (slice_set xs k y)) ≡ slice_set (map v (take n xs)) k (v y)
  front_set xs n k y h = ap (map v) (take-set-lt n xs k y h) ∙ map-set v (take n xs) k y

filter-flat_map : {X Y : Type 0} (p : Y → Bool) (g : X → List Y) (xs : List X) → filter p (flat_map g xs) ≡ flat_map (λ x. filter p (g x)) xs
filter-flat_map p g [] = refl
filter-flat_map p g (x ∷ xs) = filter-append p (g x) (flat_map g xs) ∙ ap (λ zs. filter p (g x) ++ zs) (filter-flat_map p g xs)

-- what is given of those that pass
pub flat_map-filter : {X Y : Type 0} (p : X → Bool) (g : X → List Y) (xs : List X) → flat_map (λ x. cond (p x) (g x) []) xs ≡ flat_map g (filter p xs)
flat_map-filter p g [] = refl
flat_map-filter p g (x ∷ xs) =
    elim (p x) as (λ b. cond b (g x) [] ++ flat_map (λ y. cond (p y) (g y) []) xs ≡ flat_map g (cond b (x ∷ filter p xs) (filter p xs))) [
      | true ↦ ap (λ zs. g x ++ zs) (flat_map-filter p g xs)
      | false ↦ flat_map-filter p g xs
    ]

module _ {X : Type 0} (p : X → Bool) (x : X) where
  begun_yes : p x ≡ true → (yss : List (List X)) → filter (list_all p) (map (λ ys. x ∷ ys) yss) ≡ map (λ ys. x ∷ ys) (filter (list_all p) yss)
  begun_yes e [] = refl
  begun_yes e (ys ∷ yss) =
      ap (λ b. cond (b && list_all p ys) ((x ∷ ys) ∷ filter (list_all p) (map (λ zs. x ∷ zs) yss)) (filter (list_all p) (map (λ zs. x ∷ zs) yss))) e
      ∙ (elim (list_all p ys) as (λ b. cond b ((x ∷ ys) ∷ filter (list_all p) (map (λ zs. x ∷ zs) yss)) (filter (list_all p) (map (λ zs. x ∷ zs) yss)) ≡ map (λ zs. x ∷ zs) (cond b (ys ∷ filter (list_all p) yss) (filter (list_all p) yss))) [
        | true ↦ ap (λ zss. (x ∷ ys) ∷ zss) (begun_yes e yss)
        | false ↦ begun_yes e yss
      ])

  begun_no : p x ≡ false → (yss : List (List X)) → filter (list_all p) (map (λ ys. x ∷ ys) yss) ≡ []
  begun_no e [] = refl
  begun_no e (ys ∷ yss) =
      ap (λ b. cond (b && list_all p ys) ((x ∷ ys) ∷ filter (list_all p) (map (λ zs. x ∷ zs) yss)) (filter (list_all p) (map (λ zs. x ∷ zs) yss))) e
      ∙ begun_no e yss

  -- lists that begin with x pass where x and the rest do
  filter-begun : (yss : List (List X)) → filter (list_all p) (map (λ ys. x ∷ ys) yss) ≡ cond (p x) (map (λ ys. x ∷ ys) (filter (list_all p) yss)) []
  filter-begun yss =
      elim (p x) as (λ b. p x ≡ b → filter (list_all p) (map (λ ys. x ∷ ys) yss) ≡ cond b (map (λ ys. x ∷ ys) (filter (list_all p) yss)) []) [
        | true ↦ λ e. begun_yes e yss
        | false ↦ λ e. begun_no e yss
      ] refl

-- the choices of which each element passes are the choices among those that pass
pub filter_choices : {X : Type 0} (p : X → Bool) (f : X → List X) (ts : List X) → filter (list_all p) (choices_from (map f ts)) ≡ choices_from (map (λ t. filter p (f t)) ts)
filter_choices p f [] = refl
filter_choices {X} p f (t ∷ ts) =
    let yss = choices_from (map f ts) in
    let zss = choices_from (map (λ t. filter p (f t)) ts) in
    filter-flat_map (list_all p) (λ x. map (λ ys. x ∷ ys) yss) (f t)
    ∙ flat_map_alike (λ x. filter (list_all p) (map (λ ys. x ∷ ys) yss)) (λ x. cond (p x) (map (λ ys. x ∷ ys) zss) []) (λ x. filter-begun p x yss ∙ ap (λ (wss : List (List X)). cond (p x) (map (λ ys. x ∷ ys) wss) []) (filter_choices p f ts)) (f t)
    ∙ flat_map-filter p (λ x. map (λ ys. x ∷ ys) zss) (f t)

-- what is given of the images that pass
pub flat_map-filter_map : {X Y Z : Type 0} (h : X → Y) (p : Y → Bool) (g : Y → List Z) (xs : List X) → flat_map g (filter p (map h xs)) ≡ flat_map (λ x. g (h x)) (filter (λ x. p (h x)) xs)
flat_map-filter_map h p g xs = ap (flat_map g) (sym (map-filter h p xs)) ∙ flat_map-map g h (filter (λ x. p (h x)) xs)
