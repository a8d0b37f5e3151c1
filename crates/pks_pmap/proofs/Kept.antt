-- What a test keeps of a list, and of the two sides of a fork.
use Rattle.std.proofs.Common.{◌≡◌, ℕ, suc, ◌+◌, ◌≤◌, Bool, true, false, cond, List, [], ◌∷◌, ◌++◌, length, refl, sym, ap, ◌∙◌, subst, arith, length-append, Ordering, Less}
use Rattle.std.specs.Fn.{Shared}
use Rattle.std.specs.Borrow.{Bor}
use Rattle.pks_pmap.specs.Entries.{Each, IsAscending}
use Rattle.pks_pmap.specs.Keeping.{Keeps, TakesKey, TakesKeys, IsKeeping}
use Rattle.pks_pmap.specs.declared.tree.TreeNode.{TreeNode}
use Rattle.pks_pmap.proofs.Order.{each_front, each_back}
use Rattle.pks_pmap.proofs.AtFork.{AtFork}

module _ {X : Type 0} (R : X → Bool → Type 0) where
  pub keeps_append : (xs us ys vs : List X) → Keeps R xs us → Keeps R ys vs → Keeps R (xs ++ ys) (us ++ vs)
  keeps_append [] us ys vs k m = subst (λ z. Keeps R ys (z ++ vs)) (sym k) m
  keeps_append (x ∷ xs) us ys vs k m =
      let e : us ++ vs ≡ cond k.0 (x ∷ (k.2 ++ vs)) (k.2 ++ vs) =
      elim k.0 as (λ b. us ≡ cond b (x ∷ k.2) k.2 → us ++ vs ≡ cond b (x ∷ (k.2 ++ vs)) (k.2 ++ vs)) [
        | true ↦ λ q. ap (λ z. z ++ vs) q
        | false ↦ λ q. ap (λ z. z ++ vs) q
      ] k.4
      in
      (k.0, k.1, k.2 ++ vs, keeps_append xs k.2 ys vs k.3 m, e)

  pub keeps_shorter : (xs ys : List X) → Keeps R xs ys → length ys ≤ length xs
  keeps_shorter [] ys k = subst (λ z. length z ≤ 0) (sym k) (omega arith)
  keeps_shorter (x ∷ xs) ys k =
      let h = keeps_shorter xs k.2 k.3 in
      elim k.0 as (λ b. ys ≡ cond b (x ∷ k.2) k.2 → length ys ≤ suc (length xs)) [
        | true ↦ λ q. subst (λ z. length z ≤ suc (length xs)) (sym q) (omega (arith, h))
        | false ↦ λ q. subst (λ z. length z ≤ suc (length xs)) (sym q) (omega (arith, h))
      ] k.4

  pub keeps_whole : (xs ys : List X) → Keeps R xs ys → length ys ≡ length xs → ys ≡ xs
  keeps_whole [] ys k e = k
  keeps_whole (x ∷ xs) ys k e =
      let h = keeps_shorter xs k.2 k.3 in
      elim k.0 as (λ b. ys ≡ cond b (x ∷ k.2) k.2 → ys ≡ x ∷ xs) [
        | true ↦ λ q. q ∙ ap (λ z. x ∷ z) (keeps_whole xs k.2 k.3 (let l = ap length q in omega (arith, l, e)))
        | false ↦ λ q. absurd (let l = ap length q in omega (arith, l, e, h))
      ] k.4

  pub each_keeps : (P : X → Type 0) (xs ys : List X) → Keeps R xs ys → Each P xs → Each P ys
  each_keeps P [] ys k a = subst (Each P) (sym k) tt
  each_keeps P (x ∷ xs) ys k a =
      elim k.0 as (λ b. ys ≡ cond b (x ∷ k.2) k.2 → Each P ys) [
        | true ↦ λ q. subst (Each P) (sym q) (a.0, each_keeps P xs k.2 k.3 a.1)
        | false ↦ λ q. subst (Each P) (sym q) (each_keeps P xs k.2 k.3 a.1)
      ] k.4

pub ascending_keeps : {K V : Type 0} (A : K × V → Bool → Type 0) (R : K → K → Ordering) (xs ys : List (K × V)) → Keeps A xs ys → IsAscending R xs → IsAscending R ys
ascending_keeps A R [] ys k a = subst (IsAscending R) (sym k) tt
ascending_keeps A R (x ∷ xs) ys k a =
    elim k.0 as (λ b. ys ≡ cond b (x ∷ k.2) k.2 → IsAscending R ys) [
      | true ↦ λ q. subst (IsAscending R) (sym q) (each_keeps A (λ y. R x.0 y.0 ≡ Less) xs k.2 k.3 a.0, ascending_keeps A R xs k.2 k.3 a.1)
      | false ↦ λ q. subst (IsAscending R) (sym q) (ascending_keeps A R xs k.2 k.3 a.1)
    ] k.4

module _ {K V : Type 0} {R : K → K → Ordering} {d : List (K × V) × ℕ} {n : TreeNode K V} (f : AtFork R d n) where
  pub sides_shorter : length d.0 ≡ length n.left.0 + suc (length n.right.0)
  sides_shorter = ap length f.entries ∙ length-append n.left.0 (n.pair.value ∷ n.right.0)

  module _ {F T : Type 0} (g : Shared F (Bor K × Unit {0}) T) (test : F) (t : TakesKeys g test d.0) where
    pub takes_left : TakesKeys g test n.left.0
    takes_left = record { each = each_front (TakesKey g test) n.left.0 (n.pair.value ∷ n.right.0) (subst (Each (TakesKey g test)) f.entries t.each) }

    pub takes_from : Each (TakesKey g test) (n.pair.value ∷ n.right.0)
    takes_from = each_back (TakesKey g test) n.left.0 (n.pair.value ∷ n.right.0) (subst (Each (TakesKey g test)) f.entries t.each)

    pub takes_here : TakesKey g test n.pair.value
    takes_here = takes_from.0

    pub takes_right : TakesKeys g test n.right.0
    takes_right = record { each = takes_from.1 }

  module _ (A : K × V → Bool → Type 0) {old mid new : ℕ} {l r : List (K × V) × ℕ} (i : IsKeeping A n.left old mid l) (j : IsKeeping A n.right mid new r) where
    pub keeps_yes : A n.pair.value true → Keeps A d.0 (l.0 ++ n.pair.value ∷ r.0)
    keeps_yes a = subst (λ z. Keeps A z (l.0 ++ n.pair.value ∷ r.0)) (sym f.entries) (keeps_append A n.left.0 l.0 (n.pair.value ∷ n.right.0) (n.pair.value ∷ r.0) i.entries (true, a, r.0, j.entries, refl))

    pub keeps_no : A n.pair.value false → Keeps A d.0 (l.0 ++ r.0)
    keeps_no a = subst (λ z. Keeps A z (l.0 ++ r.0)) (sym f.entries) (keeps_append A n.left.0 l.0 (n.pair.value ∷ n.right.0) r.0 i.entries (false, a, r.0, j.entries, refl))

    pub ascending_yes : A n.pair.value true → IsAscending R (l.0 ++ n.pair.value ∷ r.0)
    ascending_yes a = ascending_keeps A R d.0 _ (keeps_yes a) (subst (IsAscending R) (sym f.entries) f.node.ascending)

    pub ascending_no : A n.pair.value false → IsAscending R (l.0 ++ r.0)
    ascending_no a = ascending_keeps A R d.0 _ (keeps_no a) (subst (IsAscending R) (sym f.entries) f.node.ascending)

    shorter_left : length l.0 ≤ length n.left.0
    shorter_left = keeps_shorter A n.left.0 l.0 i.entries

    shorter_right : length r.0 ≤ length n.right.0
    shorter_right = keeps_shorter A n.right.0 r.0 j.entries

    pub kept_glued : (last : ℕ) (t : List (K × V) × ℕ) → A n.pair.value false → t.0 ≡ l.0 ++ r.0 → IsKeeping A d old last t
    kept_glued last t a e = record {
      entries = subst (Keeps A d.0) (sym e) (keeps_no a);
      shared = λ q. absurd (let z = ap length e in omega (arith, q, z, length-append l.0 r.0, sides_shorter, shorter_left, shorter_right));
    }

    pub kept_joined : (last : ℕ) (t : List (K × V) × ℕ) → A n.pair.value true → (length l.0 ≡ length n.left.0 → length r.0 ≡ length n.right.0 → ⊥) → t.0 ≡ l.0 ++ n.pair.value ∷ r.0 → IsKeeping A d old last t
    kept_joined last t a other e = record {
      entries = subst (Keeps A d.0) (sym e) (keeps_yes a);
      shared = λ q.
          let z = ap length e in
          let s = length-append l.0 (n.pair.value ∷ r.0) in
          absurd (other (omega (arith, q, z, s, sides_shorter, shorter_left, shorter_right)) (omega (arith, q, z, s, sides_shorter, shorter_left, shorter_right)));
    }

    pub kept_shared : (t : List (K × V) × ℕ) → A n.pair.value true → length l.0 ≡ length n.left.0 → length r.0 ≡ length n.right.0 → t ≡ d → IsKeeping A d old new t
    kept_shared t a x y e =
        let u = keeps_whole A n.left.0 l.0 i.entries x in
        let v = keeps_whole A n.right.0 r.0 j.entries y in
        let w : l.0 ++ n.pair.value ∷ r.0 ≡ d.0 = ap (λ z. z ++ n.pair.value ∷ r.0) u ∙ ap (λ z. n.left.0 ++ n.pair.value ∷ z) v ∙ sym f.entries in
        record {
          entries = subst (λ z. Keeps A d.0 z) (w ∙ sym (ap (λ z. z.0) e)) (keeps_yes a);
          shared = λ q. j.shared y ∙ i.shared x;
        }
