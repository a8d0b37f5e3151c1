-- Lists that are the same but for one element, walked from the left.
use Rattle.std.proofs.Common.{◌≡◌, ◌&&◌, ◌||◌, if◌then◌else◌, ℕ, Bool, true, false, List, [], ◌∷◌, Some, None, refl, sym, ap, ◌∙◌}
use Rattle.std.specs.Option.{option_map_or}
use Rattle.std.specs.List.{list_any}
use Rattle.std.specs.declared.cmp.Ordering.{Ordering}
use Rattle.std.specs.declared.cmp.Ordering.TheVariants.{Less, Equal, Greater}
use Rattle.std.specs.Ordering.{is_eq, ordering_then}
use Rattle.std.specs.Cmp.Lexicographic.{slice_cmp}
use Rattle.pks_terms.specs.Sets.{with_others}
use Rattle.pks_terms.specs.Syntax.{Literal, Atom}
use Rattle.pks_terms.specs.Orders.{literal_cmp, atom_cmp}
use Rattle.pks_terms.specs.Judging.{Judge}
use Rattle.pks_terms.specs.Rewriting.{swaps_literal, swaps_group, are_in_order, swaps_atom, swaps_listed}
use Rattle.pks_proof_cited.specs.Exchanges.{behind_first, joins, leaves, leaves_behind, becomes_first, exchanges}
use Rattle.pks_proof_cited.proofs.Others.{any_mapped, any_alike, or_again}
use Rattle.pks_proof_cited.proofs.Walking.{and_no, any_none, and_any, any_or, and_or}

pub eq_then : (a b : Ordering) → is_eq (ordering_then a b) ≡ (is_eq a && is_eq b)
eq_then Less b = refl
eq_then Equal b = refl
eq_then Greater b = refl

-- and, with the parts in another order
turn_and : (a b c : Bool) → (a && (b && c)) ≡ (b && (a && c))
turn_and true true c = refl
turn_and true false c = refl
turn_and false true c = refl
turn_and false false c = refl

-- behind a first element that passes
then_behind : {X : Type 0} (b : Bool) (f : List X → Bool) (xs : List X) → (b && f xs) ≡ option_map_or f (if b then Some xs else None) false
then_behind true f xs = refl
then_behind false f xs = refl

module _ {X : Type 0} (R : X → X → Ordering) where
  abbrev E : List X → List X → Bool
  E g h = is_eq (slice_cmp R g h)

  pub same_first : (x y : X) (g h : List X) → is_eq (slice_cmp R (x ∷ g) (y ∷ h)) ≡ (is_eq (R x y) && is_eq (slice_cmp R g h))
  same_first x y g h = eq_then (R x y) (slice_cmp R g h)

  -- equal lists, by the first element and what is behind it
  pub same_behind : (x : X) (g h : List X) → is_eq (slice_cmp R (x ∷ g) h) ≡ option_map_or (λ ys. is_eq (slice_cmp R g ys)) (behind_first (λ y. is_eq (R x y)) h) false
  same_behind x g [] = refl
  same_behind x g (y ∷ h) = same_first x y g h ∙ then_behind (is_eq (R x y)) (E g) h

  none_of : (p : X → Bool) (xs : List X) → list_any (λ (r : X × List X). p r.0 && false) (with_others xs) ≡ false
  none_of p xs = any_alike (λ (r : X × List X). p r.0 && false) (λ r. false) (λ r. and_no (p r.0)) (with_others xs) ∙ any_none (with_others xs)

  -- one more element
  joined : (p : X → Bool) (g h : List X) → list_any (λ (r : X × List X). p r.0 && is_eq (slice_cmp R g r.1)) (with_others h) ≡ joins p R g h
  joined p g [] = refl
  joined p [] (k ∷ h) = ap (λ b. (p k && E [] h) || b) (any_mapped (λ (r : X × List X). p r.0 && E [] r.1) (λ (r : X × List X). (r.0, k ∷ r.1)) (with_others h) ∙ none_of p h)
  joined p (x ∷ g) (k ∷ h) =
      ap (λ b. (p k && E (x ∷ g) h) || b)
      (any_mapped (λ (r : X × List X). p r.0 && E (x ∷ g) r.1) (λ (r : X × List X). (r.0, k ∷ r.1)) (with_others h)
      ∙ any_alike (λ (r : X × List X). p r.0 && E (x ∷ g) (k ∷ r.1)) (λ r. is_eq (R x k) && (p r.0 && E g r.1)) (λ r. ap (λ b. p r.0 && b) (same_first x k g r.1) ∙ turn_and (p r.0) (is_eq (R x k)) (E g r.1)) (with_others h)
      ∙ sym (and_any (is_eq (R x k)) (λ (r : X × List X). p r.0 && E g r.1) (with_others h))
      ∙ ap (λ b. is_eq (R x k) && b) (joined p g h)
      ∙ then_behind (is_eq (R x k)) (λ xs. joins p R xs h) g)

  -- one element less, behind one that stays, where it is so of the rest
  behind_of : (p : X → Bool) (x : X) (g : List X) (y : X) (h : List X) → list_any (λ (q : X × List X). p q.0 && is_eq (slice_cmp R q.1 h)) (with_others g) ≡ leaves p R g h
      → list_any (λ (q : X × List X). p q.0 && is_eq (slice_cmp R (x ∷ q.1) (y ∷ h))) (with_others g) ≡ (is_eq (R x y) && leaves p R g h)
  behind_of p x g y h e =
      any_alike (λ (q : X × List X). p q.0 && E (x ∷ q.1) (y ∷ h)) (λ q. is_eq (R x y) && (p q.0 && E q.1 h)) (λ q. ap (λ b. p q.0 && b) (same_first x y q.1 h) ∙ turn_and (p q.0) (is_eq (R x y)) (E q.1 h)) (with_others g)
      ∙ sym (and_any (is_eq (R x y)) (λ (q : X × List X). p q.0 && E q.1 h) (with_others g))
      ∙ ap (λ b. is_eq (R x y) && b) e

  -- one element less
  left : (p : X → Bool) (g h : List X) → list_any (λ (q : X × List X). p q.0 && is_eq (slice_cmp R q.1 h)) (with_others g) ≡ leaves p R g h
  left p [] h = refl
  left p (x ∷ g) [] = ap (λ b. (p x && E g []) || b) (any_mapped (λ (q : X × List X). p q.0 && E q.1 []) (λ (q : X × List X). (q.0, x ∷ q.1)) (with_others g) ∙ none_of p g)
  left p (x ∷ g) (y ∷ h) = ap (λ b. (p x && E g (y ∷ h)) || b) (any_mapped (λ (q : X × List X). p q.0 && E q.1 (y ∷ h)) (λ (q : X × List X). (q.0, x ∷ q.1)) (with_others g) ∙ behind_of p x g y h (left p g h) ∙ then_behind (is_eq (R x y)) (λ ys. leaves p R g ys) h)

  behind : (p : X → Bool) (x : X) (g h : List X) → list_any (λ (q : X × List X). p q.0 && is_eq (slice_cmp R (x ∷ q.1) h)) (with_others g) ≡ leaves_behind p R x g h
  behind p x g [] = none_of p g
  behind p x g (y ∷ h) = behind_of p x g y h (left p g h) ∙ then_behind (is_eq (R x y)) (λ ys. leaves p R g ys) h

  -- one element in place of another
  pub exchanged : (S : X → X → Bool) (g h : List X)
      → list_any (λ (q : X × List X). list_any (λ (r : X × List X). S q.0 r.0 && is_eq (slice_cmp R q.1 r.1)) (with_others h)) (with_others g) ≡ exchanges S R g h
  exchanged S [] h = refl
  exchanged S (x ∷ g) [] = any_mapped (λ (q : X × List X). false) (λ (q : X × List X). (q.0, x ∷ q.1)) (with_others g) ∙ any_none (with_others g)
  exchanged S (x ∷ g) (k ∷ h) =
      ap (λ b. list_any (λ (r : X × List X). S x r.0 && E g r.1) (with_others (k ∷ h)) || b)
      (any_mapped (λ (q : X × List X). list_any (λ (r : X × List X). S q.0 r.0 && E q.1 r.1) (with_others (k ∷ h))) (λ (q : X × List X). (q.0, x ∷ q.1)) (with_others g)
      ∙ any_alike (λ (q : X × List X). list_any (λ (r : X × List X). S q.0 r.0 && E (x ∷ q.1) r.1) (with_others (k ∷ h))) (λ q. (S q.0 k && E (x ∷ q.1) h) || (is_eq (R x k) && list_any (λ (r : X × List X). S q.0 r.0 && E q.1 r.1) (with_others h)))
      (λ q. joined (S q.0) (x ∷ q.1) (k ∷ h) ∙ ap (λ b. (S q.0 k && E (x ∷ q.1) h) || b) (sym (then_behind (is_eq (R x k)) (λ xs. joins (S q.0) R xs h) q.1) ∙ ap (λ b. is_eq (R x k) && b) (sym (joined (S q.0) q.1 h)))) (with_others g)
      ∙ sym (any_or (λ (q : X × List X). S q.0 k && E (x ∷ q.1) h) (λ q. is_eq (R x k) && list_any (λ (r : X × List X). S q.0 r.0 && E q.1 r.1) (with_others h)) (with_others g))
      ∙ ap (λ b. list_any (λ (q : X × List X). S q.0 k && E (x ∷ q.1) h) (with_others g) || b) (sym (and_any (is_eq (R x k)) (λ (q : X × List X). list_any (λ (r : X × List X). S q.0 r.0 && E q.1 r.1) (with_others h)) (with_others g)) ∙ ap (λ b. is_eq (R x k) && b) (exchanged S g h) ∙ then_behind (is_eq (R x k)) (λ ys. exchanges S R g ys) h)
      ∙ ap (λ b. b || option_map_or (λ ys. exchanges S R g ys) (behind_first (λ y. is_eq (R x y)) (k ∷ h)) false) (behind (λ l. S l k) x g h))
      ∙ ap (λ b. b || (becomes_first S R x g (k ∷ h) || option_map_or (λ ys. exchanges S R g ys) (behind_first (λ y. is_eq (R x y)) (k ∷ h)) false)) (joined (S x) g (k ∷ h))
      ∙ or_again (joins (S x) R g (k ∷ h)) (becomes_first S R x g (k ∷ h)) (option_map_or (λ ys. exchanges S R g ys) (behind_first (λ y. is_eq (R x y)) (k ∷ h)) false)

  any_first : (p : X → Bool) (xs : List X) → list_any (λ (r : X × List X). p r.0) (with_others xs) ≡ list_any p xs
  any_first p [] = refl
  any_first p (x ∷ xs) = ap (λ b. p x || b) (any_mapped (λ (r : X × List X). p r.0) (λ (r : X × List X). (r.0, x ∷ r.1)) (with_others xs) ∙ any_first p xs)

  swap_and : (a b : Bool) → (a && b) ≡ (b && a)
  swap_and true true = refl
  swap_and true false = refl
  swap_and false true = refl
  swap_and false false = refl

  -- one element in place of another, or one less where the other is there already
  pub merges : (S : X → X → Bool) (g h : List X)
      → list_any (λ (q : X × List X). list_any (λ (r : X × List X). S q.0 r.0 && (is_eq (slice_cmp R q.1 r.1) || is_eq (slice_cmp R q.1 h))) (with_others h)) (with_others g)
      ≡ (exchanges S R g h || leaves (λ x. list_any (S x) h) R g h)
  merges S g h =
      any_alike (λ (q : X × List X). list_any (λ (r : X × List X). S q.0 r.0 && (E q.1 r.1 || E q.1 h)) (with_others h)) (λ q. list_any (λ (r : X × List X). S q.0 r.0 && E q.1 r.1) (with_others h) || (list_any (S q.0) h && E q.1 h)) inside (with_others g)
      ∙ sym (any_or (λ (q : X × List X). list_any (λ (r : X × List X). S q.0 r.0 && E q.1 r.1) (with_others h)) (λ q. list_any (S q.0) h && E q.1 h) (with_others g))
      ∙ ap (λ b. b || list_any (λ (q : X × List X). list_any (S q.0) h && E q.1 h) (with_others g)) (exchanged S g h)
      ∙ ap (λ b. exchanges S R g h || b) (left (λ x. list_any (S x) h) g h)
    where
      inside : (q : X × List X) → list_any (λ (r : X × List X). S q.0 r.0 && (E q.1 r.1 || E q.1 h)) (with_others h) ≡ (list_any (λ (r : X × List X). S q.0 r.0 && E q.1 r.1) (with_others h) || (list_any (S q.0) h && E q.1 h))
      inside q =
          any_alike (λ (r : X × List X). S q.0 r.0 && (E q.1 r.1 || E q.1 h)) (λ r. (S q.0 r.0 && E q.1 r.1) || (E q.1 h && S q.0 r.0)) (λ r. and_or (S q.0 r.0) (E q.1 r.1) (E q.1 h) ∙ ap (λ b. (S q.0 r.0 && E q.1 r.1) || b) (swap_and (S q.0 r.0) (E q.1 h))) (with_others h)
          ∙ sym (any_or (λ (r : X × List X). S q.0 r.0 && E q.1 r.1) (λ r. E q.1 h && S q.0 r.0) (with_others h))
          ∙ ap (λ b. list_any (λ (r : X × List X). S q.0 r.0 && E q.1 r.1) (with_others h) || b) (sym (and_any (E q.1 h) (λ (r : X × List X). S q.0 r.0) (with_others h)) ∙ ap (λ b. E q.1 h && b) (any_first (S q.0) h) ∙ swap_and (E q.1 h) (list_any (S q.0) h))

-- groups
pub group_exchanged : (j : Judge) (m : ℕ) (g h : List Literal) → swaps_group j m g h ≡ (are_in_order h && exchanges (swaps_literal j m) literal_cmp g h)
group_exchanged j m g h = ap (λ b. are_in_order h && b) (exchanged literal_cmp (swaps_literal j m) g h)

-- lists of atoms
pub listed_exchanged : (j : Judge) (m : ℕ) (g h : List Atom) → swaps_listed j m g h ≡ (exchanges (swaps_atom j m) atom_cmp g h || leaves (λ a. list_any (swaps_atom j m a) h) atom_cmp g h)
listed_exchanged j m g h = merges atom_cmp (swaps_atom j m) g h
