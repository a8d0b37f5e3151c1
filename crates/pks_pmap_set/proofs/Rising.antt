-- A list in order, put into the empty set, is that set.
use Rattle.std.proofs.Common.{◌≡◌, true, List, [], ◌∷◌, ◌++◌, Ordering, Less, Equal, Greater, refl, sym, ap, ◌∙◌, subst, true≢false, append_assoc, append-nil}
use Rattle.std.proofs.lemmas.Bool.{and_parts}
use Rattle.std.specs.Ordering.{is_lt, ordering_reverse}
use Rattle.std.specs.Cmp.{IsTotalOrder}
use Rattle.pks_terms.specs.Sets.{Each, IsOrdered, insert_in, added}
use Rattle.pks_pmap_set.specs.Members.{rises, rises_from}

module _ {X : Type 0} (R : X → X → Ordering) (o : IsTotalOrder R) where
  less_of : (r : Ordering) → is_lt r ≡ true → r ≡ Less
  less_of Less e = refl
  less_of Equal e = absurd (true≢false (sym e))
  less_of Greater e = absurd (true≢false (sym e))

  above_all : (x y : X) (zs : List X) → R x y ≡ Less → Each (λ z. R y z ≡ Less) zs → Each (λ z. R x z ≡ Less) zs
  above_all x y [] e a = tt
  above_all x y (z ∷ zs) e a = (o.trans x y z e a.0, above_all x y zs e a.1)

  ordered_from : (x : X) (xs : List X) → rises_from R x xs ≡ true → IsOrdered R (x ∷ xs)
  ordered_from x [] e = (tt, tt)
  ordered_from x (y ∷ ys) e =
      let parts = and_parts (is_lt (R x y)) (rises_from R y ys) e in
      let less : R x y ≡ Less = less_of (R x y) parts.0 in
      let later : IsOrdered R (y ∷ ys) = ordered_from y ys parts.1 in
      ((less, above_all x y ys less later.0), later)

  pub ordered_of_rises : (xs : List X) → rises R xs ≡ true → IsOrdered R xs
  ordered_of_rises [] e = tt
  ordered_of_rises (x ∷ xs) e = ordered_from x xs e

  each_below : (s : List X) (x : X) (xs : List X) → IsOrdered R (s ++ x ∷ xs) → Each (λ y. R y x ≡ Less) s
  each_below [] x xs h = tt
  each_below (y ∷ s) x xs h = (within s h.0, each_below s x xs h.1)
    where
      within : (s : List X) → Each (λ z. R y z ≡ Less) (s ++ x ∷ xs) → R y x ≡ Less
      within [] a = a.0
      within (z ∷ s) a = within s a.1

  put_last : (x : X) (s : List X) → Each (λ y. R y x ≡ Less) s → insert_in R x s ≡ s ++ x ∷ []
  put_last x [] a = refl
  put_last x (y ∷ s) a =
      let greater : R x y ≡ Greater = o.antisymm x y ∙ ap ordering_reverse a.0 in
      ap (λ r. elim r as (λ _. List X) [ Less ↦ x ∷ y ∷ s | Equal ↦ y ∷ s | Greater ↦ y ∷ insert_in R x s ]) greater ∙ ap (λ zs. y ∷ zs) (put_last x s a.1)

  put_after : (s xs : List X) → IsOrdered R (s ++ xs) → added R s xs ≡ s ++ xs
  put_after s [] h = sym (append-nil s)
  put_after s (x ∷ xs) h =
      let same : (s ++ x ∷ []) ++ xs ≡ s ++ x ∷ xs = append_assoc s (x ∷ []) xs in
      ap (λ zs. added R zs xs) (put_last x s (each_below s x xs h)) ∙ put_after (s ++ x ∷ []) xs (subst (IsOrdered R) (sym same) h) ∙ same

  pub added_rising : (xs : List X) → IsOrdered R xs → added R [] xs ≡ xs
  added_rising xs h = put_after [] xs h
