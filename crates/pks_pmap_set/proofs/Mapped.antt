-- From sets of the program's values to sets of what those say: v is what a value says, and R the order of that.
use Rattle.std.proofs.Common.{◌≡◌, Bool, true, false, cond, List, [], ◌∷◌, map, filter, Some, Ordering, Less, refl, sym, ap, ◌∙◌, subst, ◌||◌}
use Rattle.std.specs.Ordering.{on, is_eq, is_gt}
use Rattle.std.specs.Option.{option_map}
use Rattle.std.specs.Fn.{Shared}
use Rattle.std.specs.Borrow.{Bor}
use Rattle.pks_pmap.specs.Keeping.{Keeps}
use Rattle.pks_terms.specs.Sets.{Each, IsOrdered}
use Rattle.pks_pmap_set.specs.Members.{is_member, first_at_least, TakesAt, TakesEach}

-- (`map-insert_in` and `map-added` of pks_terms do the same for `add` and `added`.)
module _ {X Y : Type 0} (v : X → Y) where
  module _ (R : Y → Y → Ordering) where
    pub is_member-map : (x : X) (xs : List X) → is_member (on v R) x xs ≡ is_member R (v x) (map v xs)
    is_member-map x [] = refl
    is_member-map x (y ∷ ys) = ap (λ b. is_eq (R (v x) (v y)) || b) (is_member-map x ys)

    pub first_at_least-map : (x : X) (xs : List X) → option_map v (first_at_least (on v R) x xs) ≡ first_at_least R (v x) (map v xs)
    first_at_least-map x [] = refl
    first_at_least-map x (y ∷ ys) =
        elim (is_gt (R (v x) (v y))) as (λ b. option_map v (cond b (first_at_least (on v R) x ys) (Some y)) ≡ cond b (first_at_least R (v x) (map v ys)) (Some (v y))) [
          | true ↦ first_at_least-map x ys
          | false ↦ refl
        ]

    each_above : (y : Y) (xs : List X) → Each (λ x. R y (v x) ≡ Less) xs → Each (λ z. R y z ≡ Less) (map v xs)
    each_above y [] a = tt
    each_above y (x ∷ xs) a = (a.0, each_above y xs a.1)

    pub ordered-map : (xs : List X) → IsOrdered (on v R) xs → IsOrdered R (map v xs)
    ordered-map [] h = tt
    ordered-map (x ∷ xs) h = (each_above (v x) xs h.0, ordered-map xs h.1)

    each_above_back : (y : Y) (xs : List X) → Each (λ z. R y z ≡ Less) (map v xs) → Each (λ x. R y (v x) ≡ Less) xs
    each_above_back y [] a = tt
    each_above_back y (x ∷ xs) a = (a.0, each_above_back y xs a.1)

    pub ordered-unmap : (xs : List X) → IsOrdered R (map v xs) → IsOrdered (on v R) xs
    ordered-unmap [] h = tt
    ordered-unmap (x ∷ xs) h = (each_above_back (v x) xs h.0, ordered-unmap xs h.1)

  pub map-filter : (p : Y → Bool) (xs : List X) → map v (filter (λ x. p (v x)) xs) ≡ filter p (map v xs)
  map-filter p [] = refl
  map-filter p (x ∷ xs) =
      elim (p (v x)) as (λ b. map v (cond b (x ∷ filter (λ x. p (v x)) xs) (filter (λ x. p (v x)) xs)) ≡ cond b (v x ∷ filter p (map v xs)) (filter p (map v xs))) [
        | true ↦ ap (λ zs. v x ∷ zs) (map-filter p xs)
        | false ↦ map-filter p xs
      ]

  -- where the answers are those of p on what is said, what is kept says what passes p
  pub keeps-map : (A : X → Bool → Type 0) (p : Y → Bool) → ((x : X) (b : Bool) → A x b → b ≡ p (v x)) → (xs ys : List X) → Keeps A xs ys → map v ys ≡ filter p (map v xs)
  keeps-map A p says [] ys k = ap (map v) k
  keeps-map A p says (x ∷ xs) ys k =
      let q : map v ys ≡ cond k.0 (v x ∷ map v k.2) (map v k.2) =
      elim k.0 as (λ b. ys ≡ cond b (x ∷ k.2) k.2 → map v ys ≡ cond b (v x ∷ map v k.2) (map v k.2)) [
        | true ↦ λ h. ap (map v) h
        | false ↦ λ h. ap (map v) h
      ] k.4
      in
      q ∙ (λ i. cond (says x k.0 k.1 i) (v x ∷ keeps-map A p says xs k.2 k.3 i) (keeps-map A p says xs k.2 k.3 i))

-- where the answers are those of p, what is kept is what passes p
pub keeps_filter : {X : Type 0} (A : X → Bool → Type 0) (p : X → Bool) → ((x : X) (b : Bool) → A x b → b ≡ p x) → (xs ys : List X) → Keeps A xs ys → ys ≡ filter p xs
keeps_filter A p says [] ys k = k
keeps_filter A p says (x ∷ xs) ys k =
    k.4 ∙ (λ i. cond (says x k.0 k.1 i) (x ∷ keeps_filter A p says xs k.2 k.3 i) (keeps_filter A p says xs k.2 k.3 i))

-- where a closure may be called on each value with P, it may be called on each of a list of such
pub takes_each : {F X R : Type 0} {g : Shared F (Bor X × Unit {0}) R} {f : F} {xs : List X} (P : X → Type 0) → Each P xs → ((y : Bor X) → P y.now → g.pre f (y, tt)) → TakesEach g f xs
takes_each {F} {X} {R} {g} {f} {xs} P a may = record { each = go xs a }
  where
    go : (xs : List X) → Each P xs → Each (TakesAt g f) xs
    go [] a = tt
    go (x ∷ xs) a = (λ y e. may y (subst P (sym e) a.0), go xs a.1)

-- where a closure may always be called, it may be called on each of a list
pub takes_always : {F X R : Type 0} {g : Shared F (Bor X × Unit {0}) R} {f : F} → ((y : Bor X) → g.pre f (y, tt)) → (xs : List X) → TakesEach g f xs
takes_always {F} {X} {R} {g} {f} may xs = record { each = go xs }
  where
    go : (xs : List X) → Each (TakesAt g f) xs
    go [] = tt
    go (x ∷ xs) = (λ y e. may y, go xs)
