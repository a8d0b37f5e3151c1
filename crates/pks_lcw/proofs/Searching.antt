-- A search in order finds exactly the members.
use Rattle.std.proofs.Common.{◌≡◌, ◌<◌, ◌≤◌, ◌||◌, ℕ, zero, suc, false, List, [], ◌∷◌, length, slice_index_or, Result, Ok, Err, refl, sym, ap, ◌∙◌, subst, ⊎_elim, arith, Ordering, Less, Equal, Greater}
use Rattle.std.specs.Ordering.{is_eq, ordering_index, ordering_reverse}
use Rattle.std.specs.Result.{is_ok}
use Rattle.std.specs.Cmp.{IsTotalOrder}
use Rattle.std.specs.List.Sorted.{IsSearchInRange, IsBinarySearchResult}
use Rattle.std.proofs.lemmas.Bool.{cases_lt}
use Rattle.std.proofs.lemmas.List.Folds.{list_any_at}
use Rattle.pks_terms.specs.Sets.{Each, IsOrdered}
use Rattle.pks_pmap_set.specs.Members.{is_member}

module _ {X : Type 0} where
  each_at : (P : X → Type 0) (xs : List X) (i : ℕ) (d : X) → i < length xs → Each P xs → P (slice_index_or xs i d)
  each_at P [] i d h a = absurd (omega (arith, h))
  each_at P (x ∷ xs) zero d h a = a.0
  each_at P (x ∷ xs) (suc i) d h a = each_at P xs i d (omega (arith, h)) a.1

module _ {X : Type 0} (R : X → X → Ordering) (o : IsTotalOrder R) where
  below_later : (xs : List X) (i j : ℕ) (d : X) → i < j → j < length xs → IsOrdered R xs → R (slice_index_or xs i d) (slice_index_or xs j d) ≡ Less
  below_later [] i j d h k a = absurd (omega (arith, k))
  below_later (x ∷ xs) i zero d h k a = absurd (omega (arith, h))
  below_later (x ∷ xs) zero (suc j) d h k a = each_at (λ y. R x y ≡ Less) xs j d (omega (arith, k)) a.0
  below_later (x ∷ xs) (suc i) (suc j) d h k a = below_later xs i j d (omega (arith, h)) (omega (arith, k)) a.1

  at_most : (r : Ordering) → ordering_index r ≤ 2
  at_most Less = omega arith
  at_most Equal = omega arith
  at_most Greater = omega arith

  -- what is below compares lower with x
  lower : (x y z : X) → R y z ≡ Less → ordering_index (R y x) ≤ ordering_index (R z x)
  lower x y z q =
      elim (R z x) as (λ r. R z x ≡ r → ordering_index (R y x) ≤ ordering_index r) [
        | Less ↦ λ e. subst (λ r. ordering_index r ≤ 0) (sym (o.trans y z x q e)) (omega arith)
        | Equal ↦ λ e.
            let less : R y x ≡ Less = o.antisymm y x ∙ ap ordering_reverse (sym (o.congr z x y e)) ∙ sym (o.antisymm y z) ∙ q in
            subst (λ r. ordering_index r ≤ 1) (sym less) (omega arith)
        | Greater ↦ λ e. at_most (R y x)
      ] refl

  rising : (x : X) (xs : List X) → IsOrdered R xs → (i j : ℕ) (d : X) → i ≤ j → j < length xs → ordering_index (R (slice_index_or xs i d) x) ≤ ordering_index (R (slice_index_or xs j d) x)
  rising x xs a i j d h k =
      ⊎_elim (λ less. lower x (slice_index_or xs i d) (slice_index_or xs j d) (below_later xs i j d less k a))
      (λ le. let same : i ≡ j = omega arith in subst (λ n. ordering_index (R (slice_index_or xs i d) x) ≤ ordering_index (R (slice_index_or xs n d) x)) same (omega arith))
      (cases_lt i j)

  none_same : (x : X) (xs : List X) → ((j : ℕ) → j < length xs → is_eq (R x (slice_index_or xs j x)) ≡ false) → is_member R x xs ≡ false
  none_same x [] h = refl
  none_same x (y ∷ ys) h = λ i. (h zero (omega arith) i || none_same x ys (λ j k. h (suc j) (omega (arith, k))) i)

  turned : (x y : X) (r : Ordering) → R y x ≡ r → R x y ≡ ordering_reverse r
  turned x y r e = o.antisymm x y ∙ ap ordering_reverse e

  pub found : (x : X) (xs : List X) (r : Result ℕ ℕ) → IsOrdered R xs → IsSearchInRange r (length xs) → IsBinarySearchResult (λ y. R y x) xs r → is_ok r ≡ is_member R x xs
  found x xs (Ok i) a b h = sym (list_any_at (λ y. is_eq (R x y)) xs i x b (ap is_eq (turned x (slice_index_or xs i x) Equal (h x))))
  found x xs (Err i) a b h =
      let parts = h (rising x xs a) in
      sym (none_same x xs (λ j k. ⊎_elim
      (λ less. ap is_eq (turned x (slice_index_or xs j x) Less (parts.0 j x (omega arith) less)))
      (λ le. ap is_eq (turned x (slice_index_or xs j x) Greater (parts.1 j x le k)))
      (cases_lt j i)))
