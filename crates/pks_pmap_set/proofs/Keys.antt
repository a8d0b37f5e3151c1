-- A map whose values say nothing is the set of its keys.
use Rattle.std.proofs.Common.{◌≡◌, Bool, true, false, cond, List, [], ◌∷◌, ◌++◌, length, suc, refl, sym, ap, true≢false, arith, Ordering, Less, Equal, Greater, ◌||◌, Option, Some, None}
use Rattle.std.specs.Ordering.{is_eq, is_gt, match_ordering}
use Rattle.std.specs.Option.{is_some, option_map}
use Rattle.std.specs.Cmp.{IsTotalOrder}
use Rattle.std.specs.Fn.{Shared}
use Rattle.std.specs.Borrow.{Bor}
use Rattle.pks_pmap.specs.Entries as map
use Rattle.pks_pmap.specs.Keeping.{Keeps, TakesKey, TakesKeys}
use Rattle.pks_terms.specs.Sets.{Each, IsOrdered, insert_in}
use Rattle.pks_pmap_set.specs.Members.{is_member, first_at_least, keys, TakesAt, TakesEach}

module _ {K V : Type 0} (R : K → K → Ordering) where
  pub member_by_get : (k : K) (es : List (K × V)) → is_some (map.get R k es) ≡ is_member R k (keys es)
  member_by_get k [] = refl
  member_by_get k (e ∷ es) =
      elim (R k e.0) as (λ o. is_some (match_ordering o (map.get R k es) (Some e.1) (map.get R k es)) ≡ (is_eq o || is_member R k (keys es))) [
        | Less ↦ member_by_get k es
        | Equal ↦ refl
        | Greater ↦ member_by_get k es
      ]

  pub keys_insert : (e : K × V) (es : List (K × V)) → is_member R e.0 (keys es) ≡ false → keys (map.insert R e es) ≡ insert_in R e.0 (keys es)
  keys_insert e [] n = refl
  keys_insert e (f ∷ es) n =
      elim (R e.0 f.0) as (λ o. (is_eq o || is_member R e.0 (keys es)) ≡ false → keys (match_ordering o (e ∷ f ∷ es) (e ∷ es) (f ∷ map.insert R e es)) ≡ elim o as (λ _. List K) [ Less ↦ e.0 ∷ f.0 ∷ keys es | Equal ↦ f.0 ∷ keys es | Greater ↦ f.0 ∷ insert_in R e.0 (keys es) ]) [
        | Less ↦ λ h. refl
        | Equal ↦ λ h. absurd (true≢false h)
        | Greater ↦ λ h. ap (λ z. f.0 ∷ z) (keys_insert e es h)
      ] n

  each_keys : (P : K → Type 0) (es : List (K × V)) → map.Each (λ f. P f.0) es → Each P (keys es)
  each_keys P [] a = tt
  each_keys P (e ∷ es) a = (a.0, each_keys P es a.1)

  pub ordered_keys : (es : List (K × V)) → map.IsAscending R es → IsOrdered R (keys es)
  ordered_keys [] a = tt
  ordered_keys (e ∷ es) a = (each_keys (λ k. R e.0 k ≡ Less) es a.0, ordered_keys es a.1)

  each_of_keys : (P : K → Type 0) (es : List (K × V)) → Each P (keys es) → map.Each (λ f. P f.0) es
  each_of_keys P [] a = tt
  each_of_keys P (e ∷ es) a = (a.0, each_of_keys P es a.1)

  pub ascending_of_keys : (es : List (K × V)) → IsOrdered R (keys es) → map.IsAscending R es
  ascending_of_keys [] a = tt
  ascending_of_keys (e ∷ es) a = (each_of_keys (λ k. R e.0 k ≡ Less) es a.0, ascending_of_keys es a.1)

  pub first_by_keys : (k : K) (es : List (K × V)) → option_map (λ e. e.0) (map.first_from R k es) ≡ first_at_least R k (keys es)
  first_by_keys k [] = refl
  first_by_keys k (e ∷ es) =
      elim (is_gt (R k e.0)) as (λ b. option_map (λ e. e.0) (cond b (map.first_from R k es) (Some e)) ≡ cond b (first_at_least R k (keys es)) (Some e.0)) [
        | true ↦ first_by_keys k es
        | false ↦ refl
      ]

pub keeps_keys : {K V : Type 0} (A : K → Bool → Type 0) (es fs : List (K × V)) → Keeps (λ e b. A e.0 b) es fs → Keeps A (keys es) (keys fs)
keeps_keys A [] fs k = ap keys k
keeps_keys A (e ∷ es) fs k =
    let q : keys fs ≡ cond k.0 (e.0 ∷ keys k.2) (keys k.2) =
    elim k.0 as (λ b. fs ≡ cond b (e ∷ k.2) k.2 → keys fs ≡ cond b (e.0 ∷ keys k.2) (keys k.2)) [
      | true ↦ λ h. ap keys h
      | false ↦ λ h. ap keys h
    ] k.4
    in
    (k.0, k.1, keys k.2, keeps_keys A es k.2 k.3, q)

pub takes_keys : {F K V T : Type 0} (g : Shared F (Bor K × Unit {0}) T) (f : F) (es : List (K × V)) → TakesEach g f (keys es) → TakesKeys g f es
takes_keys {F} {K} {V} {T} g f es t = record { each = go es t.each }
  where
    go : (es : List (K × V)) → Each (TakesAt g f) (keys es) → map.Each (TakesKey g f) es
    go [] a = tt
    go (e ∷ es) a = (a.0, go es a.1)

module _ {X : Type 0} (R : X → X → Ordering) where
  -- where x is there, nothing changes
  pub insert_in-present : IsTotalOrder R → (x : X) (ys : List X) → IsOrdered R ys → is_member R x ys ≡ true → insert_in R x ys ≡ ys
  insert_in-present o x [] a e = absurd (true≢false (sym e))
  insert_in-present o x (y ∷ ys) a e =
      elim (R x y) as (λ r. R x y ≡ r → (is_eq r || is_member R x ys) ≡ true → elim r as (λ _. List X) [ Less ↦ x ∷ y ∷ ys | Equal ↦ y ∷ ys | Greater ↦ y ∷ insert_in R x ys ] ≡ y ∷ ys) [
        | Less ↦ λ q h. absurd (below_all x y ys q a.0 h)
        | Equal ↦ λ q h. refl
        | Greater ↦ λ q h. ap (λ zs. y ∷ zs) (insert_in-present o x ys a.1 h)
      ] refl e
    where
      below_all : (x y : X) (zs : List X) → R x y ≡ Less → Each (λ z. R y z ≡ Less) zs → is_member R x zs ≡ true → ⊥
      below_all x y [] q a h = true≢false (sym h)
      below_all x y (z ∷ zs) q a h =
          let less : R x z ≡ Less = o.trans x y z q a.0 in
          below_all x y zs q a.1 (rw less at h)

pub is_some_map : {X Y : Type 0} (f : X → Y) (r : Option X) → is_some (option_map f r) ≡ is_some r
is_some_map f None = refl
is_some_map f (Some x) = refl

pub length-keys : {K V : Type 0} (es : List (K × V)) → length (keys es) ≡ length es
length-keys [] = refl
length-keys (e ∷ es) = ap suc (length-keys es)

pub keys-append : {K V : Type 0} (es fs : List (K × V)) → keys (es ++ fs) ≡ keys es ++ keys fs
keys-append [] fs = refl
keys-append (e ∷ es) fs = ap (λ z. e.0 ∷ z) (keys-append es fs)

pub none_left : {X : Type 0} (xs : List X) → length xs ≡ 0 → xs ≡ []
none_left [] e = refl
none_left (x ∷ xs) e = absurd (omega (arith, e))
