-- What a change below a fork does to the tree.
use Rattle.std.proofs.Common.{◌≡◌, ℕ, suc, ◌+◌, ◌≤◌, max, List, [], ◌∷◌, ◌++◌, length, drop, refl, sym, ap, ◌∙◌, subst, arith, Ordering, Less, Equal, Greater}
use Rattle.std.proofs.Math.Seq.{drop-append_seam, drop-append-add}
use Rattle.std.specs.Cmp.{IsTotalOrder}
use Rattle.pks_pmap.specs.Entries.{IsAscending, insert, remove}
use Rattle.pks_pmap.specs.Sides.{IsFull, IsBalancing, IsInsertion, IsRemoval, IsTakingFirst, IsGluing}
use Rattle.pks_pmap.specs.declared.tree.TreeNode.{TreeNode}
use Rattle.pks_pmap.proofs.Order.{ascending_insert, ascending_remove, insert_left, insert_middle, insert_right, remove_left, remove_middle, remove_right}
use Rattle.pks_pmap.proofs.AtFork.{AtFork}

pub nth_middle : {X : Type 0} (l : List X) (e : X) (r : List X) → drop (length l) (l ++ e ∷ r) ≡ e ∷ drop (length l + 1) (l ++ e ∷ r)
nth_middle l e r = drop-append_seam l (e ∷ r) ∙ ap (λ z. e ∷ z) (sym (drop-append-add l (e ∷ r) 1))

pub nth_right : {X : Type 0} (l : List X) (e : X) (r : List X) (i at : ℕ) (x : X) → at ≡ length l + suc i → drop i r ≡ x ∷ drop (i + 1) r → drop at (l ++ e ∷ r) ≡ x ∷ drop (at + 1) (l ++ e ∷ r)
nth_right l e r i at x is here =
    let first : drop at (l ++ e ∷ r) ≡ drop i r = ap (λ k. drop k (l ++ e ∷ r)) is ∙ drop-append-add l (e ∷ r) (suc i) in
    let more : at + 1 ≡ length l + suc (i + 1) = omega arith in
    let next : drop (at + 1) (l ++ e ∷ r) ≡ drop (i + 1) r = ap (λ k. drop k (l ++ e ∷ r)) more ∙ drop-append-add l (e ∷ r) (suc (i + 1)) in
    first ∙ here ∙ ap (λ z. x ∷ z) (sym next)

length-zero : {X : Type 0} (l : List X) → length l ≡ 0 → l ≡ []
length-zero [] e = refl
length-zero (x ∷ l) e = absurd (omega (arith, e))

module _ {K V : Type 0} (R : K → K → Ordering) (o : IsTotalOrder R) {d : List (K × V) × ℕ} {n : TreeNode K V} (f : AtFork R d n) where
  pub insert_left_ascending : (e : K × V) → R e.0 n.pair.value.0 ≡ Less → IsAscending R (insert R e n.left.0 ++ n.pair.value ∷ n.right.0)
  insert_left_ascending e q = subst (IsAscending R) (insert_left R o e n.left.0 n.pair.value n.right.0 q) (ascending_insert R o e _ f.node.ascending)

  pub insert_middle_ascending : (e : K × V) → R e.0 n.pair.value.0 ≡ Equal → IsAscending R (n.left.0 ++ e ∷ n.right.0)
  insert_middle_ascending e q = subst (IsAscending R) (insert_middle R o e n.left.0 n.pair.value n.right.0 f.node.ascending q) (ascending_insert R o e _ f.node.ascending)

  pub insert_right_ascending : (e : K × V) → R e.0 n.pair.value.0 ≡ Greater → IsAscending R (n.left.0 ++ n.pair.value ∷ insert R e n.right.0)
  insert_right_ascending e q = subst (IsAscending R) (insert_right R o e n.left.0 n.pair.value n.right.0 f.node.ascending q) (ascending_insert R o e _ f.node.ascending)

  pub remove_left_ascending : (k : K) → R k n.pair.value.0 ≡ Less → IsAscending R (remove R k n.left.0 ++ n.pair.value ∷ n.right.0)
  remove_left_ascending k q = subst (IsAscending R) (remove_left R o k n.left.0 n.pair.value n.right.0 q) (ascending_remove R o k _ f.node.ascending)

  pub remove_middle_ascending : (k : K) → R k n.pair.value.0 ≡ Equal → IsAscending R (n.left.0 ++ n.right.0)
  remove_middle_ascending k q = subst (IsAscending R) (remove_middle R o k n.left.0 n.pair.value n.right.0 f.node.ascending q) (ascending_remove R o k _ f.node.ascending)

  pub remove_right_ascending : (k : K) → R k n.pair.value.0 ≡ Greater → IsAscending R (n.left.0 ++ n.pair.value ∷ remove R k n.right.0)
  remove_right_ascending k q = subst (IsAscending R) (remove_right R o k n.left.0 n.pair.value n.right.0 f.node.ascending q) (ascending_remove R o k _ f.node.ascending)

  pub insert_below_left : (e : K × V) (old mid new : ℕ) (l t : List (K × V) × ℕ) → R e.0 n.pair.value.0 ≡ Less → IsInsertion R e n.left old mid l → IsBalancing l n.pair.value n.right mid new t → IsInsertion R e d old new t
  insert_below_left e old mid new l t q i b =
      let h : n.height ≡ max n.left.1 n.right.1 + 1 = f.node.is_height in
      let s = f.node.balanced in
      record {
        entries = b.entries ∙ ap (λ z. z ++ n.pair.value ∷ n.right.0) i.entries ∙ sym (insert_left R o e n.left.0 n.pair.value n.right.0 q) ∙ ap (insert R e) (sym f.entries);
        not_lower = grind (arith, f.height, h, s, i.not_lower, i.at_most_one_higher, b.not_lower, b.one);
        at_most_one_higher = grind (arith, f.height, h, s, i.not_lower, i.at_most_one_higher, b.at_most_one_higher, b.one);
        few = grind (arith, f.height, h, s, i.not_lower, i.at_most_one_higher, i.few, b.few, b.one);
      }

  pub insert_here : (e : K × V) (old new : ℕ) (t : List (K × V) × ℕ) → R e.0 n.pair.value.0 ≡ Equal → t ≡ (n.left.0 ++ e ∷ n.right.0, max n.left.1 n.right.1 + 1) → new ≤ old + 1 → IsInsertion R e d old new t
  insert_here e old new t q is one =
      let h : t.1 ≡ d.1 = ap (λ p. p.1) is ∙ sym f.node.is_height ∙ sym f.height in
      record {
        entries = ap (λ p. p.0) is ∙ sym (insert_middle R o e n.left.0 n.pair.value n.right.0 f.node.ascending q) ∙ ap (insert R e) (sym f.entries);
        not_lower = omega (arith, h);
        at_most_one_higher = omega (arith, h);
        few = omega (arith, h, one);
      }

  pub insert_below_right : (e : K × V) (old mid new : ℕ) (r t : List (K × V) × ℕ) → R e.0 n.pair.value.0 ≡ Greater → IsInsertion R e n.right old mid r → IsBalancing n.left n.pair.value r mid new t → IsInsertion R e d old new t
  insert_below_right e old mid new r t q i b =
      let h : n.height ≡ max n.left.1 n.right.1 + 1 = f.node.is_height in
      let s = f.node.balanced in
      record {
        entries = b.entries ∙ ap (λ z. n.left.0 ++ n.pair.value ∷ z) i.entries ∙ sym (insert_right R o e n.left.0 n.pair.value n.right.0 f.node.ascending q) ∙ ap (insert R e) (sym f.entries);
        not_lower = grind (arith, f.height, h, s, i.not_lower, i.at_most_one_higher, b.not_lower, b.one);
        at_most_one_higher = grind (arith, f.height, h, s, i.not_lower, i.at_most_one_higher, b.at_most_one_higher, b.one);
        few = grind (arith, f.height, h, s, i.not_lower, i.at_most_one_higher, i.few, b.few, b.one);
      }

  pub remove_below_left : (k : K) (mid new : ℕ) (l t : List (K × V) × ℕ) → R k n.pair.value.0 ≡ Less → IsRemoval R k n.left l → IsBalancing l n.pair.value n.right mid new t → IsRemoval R k d t
  remove_below_left k mid new l t q i b =
      let h : n.height ≡ max n.left.1 n.right.1 + 1 = f.node.is_height in
      let s = f.node.balanced in
      record {
        entries = b.entries ∙ ap (λ z. z ++ n.pair.value ∷ n.right.0) i.entries ∙ sym (remove_left R o k n.left.0 n.pair.value n.right.0 q) ∙ ap (remove R k) (sym f.entries);
        not_higher = grind (arith, f.height, h, s, i.not_higher, i.at_most_one_lower, b.at_most_one_higher, b.one);
        at_most_one_lower = grind (arith, f.height, h, s, i.not_higher, i.at_most_one_lower, b.not_lower, b.one);
      }

  pub remove_here : (k : K) (t : List (K × V) × ℕ) → R k n.pair.value.0 ≡ Equal → IsGluing n.left n.right t → IsRemoval R k d t
  remove_here k t q i =
      let h : n.height ≡ max n.left.1 n.right.1 + 1 = f.node.is_height in
      record {
        entries = i.entries ∙ sym (remove_middle R o k n.left.0 n.pair.value n.right.0 f.node.ascending q) ∙ ap (remove R k) (sym f.entries);
        not_higher = omega (arith, f.height, h, i.at_most_one_higher);
        at_most_one_lower = omega (arith, f.height, h, i.not_lower f.node.balanced);
      }

  pub remove_below_right : (k : K) (mid new : ℕ) (r t : List (K × V) × ℕ) → R k n.pair.value.0 ≡ Greater → IsRemoval R k n.right r → IsBalancing n.left n.pair.value r mid new t → IsRemoval R k d t
  remove_below_right k mid new r t q i b =
      let h : n.height ≡ max n.left.1 n.right.1 + 1 = f.node.is_height in
      let s = f.node.balanced in
      record {
        entries = b.entries ∙ ap (λ z. n.left.0 ++ n.pair.value ∷ z) i.entries ∙ sym (remove_right R o k n.left.0 n.pair.value n.right.0 f.node.ascending q) ∙ ap (remove R k) (sym f.entries);
        not_higher = grind (arith, f.height, h, s, i.not_higher, i.at_most_one_lower, b.at_most_one_higher, b.one);
        at_most_one_lower = grind (arith, f.height, h, s, i.not_higher, i.at_most_one_lower, b.not_lower, b.one);
      }

  pub take_here : length n.left.0 ≡ 0 → IsFull n.left.1 (length n.left.0) → IsTakingFirst d n.pair.value n.right
  take_here empty full =
      let h : n.height ≡ max n.left.1 n.right.1 + 1 = f.node.is_height in
      let s = f.node.balanced in
      record {
        entries = f.entries ∙ ap (λ z. z ++ n.pair.value ∷ n.right.0) (length-zero n.left.0 empty);
        not_higher = omega (arith, f.height, h, s, full.linear, empty);
        at_most_one_lower = omega (arith, f.height, h, s, full.linear, empty);
      }
