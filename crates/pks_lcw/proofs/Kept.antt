-- What a test keeps, element by element.
use Rattle.std.proofs.Common.{◌≡◌, ℕ, ◌+◌, Bool, true, false, cond, List, [], ◌∷◌, ◌++◌, drop, refl, sym, subst, append_assoc, Ordering, Less}
use Rattle.pks_terms.specs.Sets.{Each, IsOrdered}
use Rattle.pks_pmap.specs.Keeping.{Keeps}

module _ {X : Type 0} (R : X → Bool → Type 0) (xs ys : List X) (i : ℕ) (x : X) (here : drop i xs ≡ x ∷ drop (i + 1) xs) (k : (zs : List X) → Keeps R (drop i xs) zs → Keeps R xs (ys ++ zs)) where
  pub keeps_yes : R x true → (zs : List X) → Keeps R (drop (i + 1) xs) zs → Keeps R xs ((ys ++ x ∷ []) ++ zs)
  keeps_yes r zs z = rw append_assoc (k (x ∷ zs) (subst (λ us. Keeps R us (x ∷ zs)) (sym here) (true, r, zs, z, refl)))

  pub keeps_no : R x false → (zs : List X) → Keeps R (drop (i + 1) xs) zs → Keeps R xs (ys ++ zs)
  keeps_no r zs z = k zs (subst (λ us. Keeps R us zs) (sym here) (false, r, zs, z, refl))

module _ {X : Type 0} (R : X → Bool → Type 0) where
  pub each_keeps : (P : X → Type 0) (xs ys : List X) → Keeps R xs ys → Each P xs → Each P ys
  each_keeps P [] ys k a = subst (Each P) (sym k) tt
  each_keeps P (x ∷ xs) ys k a =
      elim k.0 as (λ b. ys ≡ cond b (x ∷ k.2) k.2 → Each P ys) [
        | true ↦ λ q. subst (Each P) (sym q) (a.0, each_keeps P xs k.2 k.3 a.1)
        | false ↦ λ q. subst (Each P) (sym q) (each_keeps P xs k.2 k.3 a.1)
      ] k.4

  pub ordered_keeps : (cmp : X → X → Ordering) (xs ys : List X) → Keeps R xs ys → IsOrdered cmp xs → IsOrdered cmp ys
  ordered_keeps cmp [] ys k a = subst (IsOrdered cmp) (sym k) tt
  ordered_keeps cmp (x ∷ xs) ys k a =
      elim k.0 as (λ b. ys ≡ cond b (x ∷ k.2) k.2 → IsOrdered cmp ys) [
        | true ↦ λ q. subst (IsOrdered cmp) (sym q) (each_keeps (λ y. cmp x y ≡ Less) xs k.2 k.3 a.0, ordered_keeps cmp xs k.2 k.3 a.1)
        | false ↦ λ q. subst (IsOrdered cmp) (sym q) (ordered_keeps cmp xs k.2 k.3 a.1)
      ] k.4
