-- A list in order, as a loop goes through it.
use Rattle.std.proofs.Common.{◌≡◌, ◌≤◌, ◌<◌, ◌+◌, ◌-◌, inl, inr, ℕ, zero, suc, List, [], ◌∷◌, ◌++◌, map, length, get_or, take, drop, Less, Ordering, refl, sym, ap, ◌∙◌, subst, arith}
use Rattle.std.proofs.lemmas.List.{take_more, take_all, map-append}
use Rattle.pks_terms.specs.Sets.{Each, IsIn, IsOrdered}
use Rattle.pks_terms.proofs.ListLaws.{each_in, in_map}
use Rattle.pks_laws.proofs.Least.{in_right}

pub in_list : {X : Type 0} (xs : List X) (k : ℕ) (d : X) → k < length xs → IsIn (get_or xs k d) xs
in_list [] k d h = absurd (omega arith)
in_list (x ∷ xs) zero d h = inl refl
in_list (x ∷ xs) (suc k) d h = inr (in_list xs k d (omega arith))

module _ {X : Type 0} where
  -- one that comes after those before is one of all
  pub in_rest : (before : List X) (x : X) (rest all : List X) → before ++ x ∷ rest ≡ all → IsIn x all
  in_rest before x rest all e = subst (IsIn x) e (in_right before (x ∷ rest) x (inl refl))

  -- those before are less
  pub less_before : (cmp : X → X → Ordering) (before : List X) (x : X) (rest : List X) → IsOrdered cmp (before ++ x ∷ rest) → Each (λ b. cmp b x ≡ Less) before
  less_before cmp [] x rest o = tt
  less_before cmp (y ∷ ys) x rest o = (each_in (λ z. cmp y z ≡ Less) (ys ++ x ∷ rest) x o.0 (in_right ys (x ∷ rest) x (inl refl)), less_before cmp ys x rest o.1)

  -- what is left gets shorter
  pub shorter : (old new : List X) (x : X) → old ≡ x ∷ new → length new < length old
  shorter old new x e = let one_more : length old ≡ suc (length new) = ap length e in omega arith

module _ {X Y : Type 0} (f : X → Y) where
  -- one more
  pub taken_more : (xs : List X) (k : ℕ) (d : X) → k < length xs → map f (take (k + 1) xs) ≡ map f (take k xs) ++ f (get_or xs k d) ∷ []
  taken_more xs k d h = ap (map f) (take_more xs k d h) ∙ map-append f (take k xs) (get_or xs k d ∷ [])

  -- those before are less
  pub taken_before : (cmp : Y → Y → Ordering) (xs : List X) (k : ℕ) (d : X) → IsOrdered cmp (map f xs) → k < length xs → Each (λ b. cmp b (f (get_or xs k d)) ≡ Less) (map f (take k xs))
  taken_before cmp [] k d o h = absurd (omega arith)
  taken_before cmp (x ∷ xs) zero d o h = tt
  taken_before cmp (x ∷ xs) (suc k) d o h = (
    each_in (λ y. cmp (f x) y ≡ Less) (map f xs) (f (get_or xs k d)) o.0 (in_map f xs (get_or xs k d) (in_list xs k d (omega arith))),
    taken_before cmp xs k d o.1 (omega arith),
  )

  -- the first and the others
  pub first_and_others : (xs : List X) (d : X) → 1 ≤ length xs → map f xs ≡ f (get_or xs 0 d) ∷ map f (take (length xs - 1) (drop 1 xs))
  first_and_others [] d h = absurd (omega arith)
  first_and_others (x ∷ xs) d h = λ i. f x ∷ map f (sym (take_all (length (x ∷ xs) - 1) xs (omega arith)) i)

  pub none_left : (xs : List X) → length xs < 1 → map f xs ≡ []
  none_left [] h = refl
  none_left (x ∷ xs) h = absurd (omega arith)
