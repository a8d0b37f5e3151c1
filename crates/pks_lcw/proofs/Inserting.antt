-- A new member takes its place.
use Rattle.std.proofs.Common.{◌≡◌, suc, ◌≤◌, true, false, cond, List, [], ◌∷◌, ◌++◌, take, drop, length, refl, ap, ◌∙◌, arith, true≢false, Ordering, Less, Equal, Greater, ◌||◌}
use Rattle.std.specs.Ordering.{is_eq, is_gt, ordering_reverse}
use Rattle.std.specs.Cmp.{IsTotalOrder}
use Rattle.pks_terms.specs.Sets.{Each, IsOrdered, insert_in}
use Rattle.pks_terms.proofs.ListLaws.{each_insert_in}
use Rattle.pks_pmap_set.specs.Members.{is_member}
use Rattle.pks_terms.specs.Placing.{count_below}

module _ {X : Type 0} (R : X → X → Ordering) where
  pub count_below-le-length : (x : X) (ys : List X) → count_below R x ys ≤ length ys
  count_below-le-length x [] = omega arith
  count_below-le-length x (y ∷ ys) =
      elim (is_gt (R x y)) as (λ b. cond b (suc (count_below R x ys)) 0 ≤ suc (length ys)) [
        | true ↦ omega (arith, count_below-le-length x ys)
        | false ↦ omega arith
      ]

  -- where x isn't there, it goes after those below it
  pub insert_in-absent : (x : X) (ys : List X) → is_member R x ys ≡ false → insert_in R x ys ≡ take (count_below R x ys) ys ++ x ∷ drop (count_below R x ys) ys
  insert_in-absent x [] e = refl
  insert_in-absent x (y ∷ ys) e =
      elim (R x y) as (λ o. (is_eq o || is_member R x ys) ≡ false → elim o as (λ _. List X) [ Less ↦ x ∷ y ∷ ys | Equal ↦ y ∷ ys | Greater ↦ y ∷ insert_in R x ys ] ≡ take (cond (is_gt o) (suc (count_below R x ys)) 0) (y ∷ ys) ++ x ∷ drop (cond (is_gt o) (suc (count_below R x ys)) 0) (y ∷ ys)) [
        | Less ↦ λ h. refl
        | Equal ↦ λ h. absurd (true≢false h)
        | Greater ↦ λ h. ap (λ zs. y ∷ zs) (insert_in-absent x ys h)
      ] e

  each_above : IsTotalOrder R → (x y : X) (zs : List X) → R x y ≡ Less → Each (λ z. R y z ≡ Less) zs → Each (λ z. R x z ≡ Less) zs
  each_above o x y [] q a = tt
  each_above o x y (z ∷ zs) q a = (o.trans x y z q a.0, each_above o x y zs q a.1)

  pub ordered_insert_in : IsTotalOrder R → (x : X) (ys : List X) → IsOrdered R ys → IsOrdered R (insert_in R x ys)
  ordered_insert_in o x [] a = (tt, tt)
  ordered_insert_in o x (y ∷ ys) a =
      elim (R x y) as (λ r. R x y ≡ r → IsOrdered R (elim r as (λ _. List X) [ Less ↦ x ∷ y ∷ ys | Equal ↦ y ∷ ys | Greater ↦ y ∷ insert_in R x ys ])) [
        | Less ↦ λ q. ((q, each_above o x y ys q a.0), a)
        | Equal ↦ λ q. a
        | Greater ↦ λ q. (each_insert_in (λ z. R y z ≡ Less) R x ys (o.antisymm y x ∙ ap ordering_reverse q) a.0, ordered_insert_in o x ys a.1)
      ] refl
