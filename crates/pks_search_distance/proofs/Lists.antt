-- Lists that code appends to.
use Rattle.std.proofs.Common.{◌≡◌, ◌<◌, ◌≤◌, ◌+◌, ◌-◌, ◌++◌, ◌&&◌, ◌||◌, ℕ, zero, suc, Bool, true, false, List, [], ◌∷◌, map, take, drop, get_or, length, flat_map, refl, sym, ap, ◌∙◌, subst, arith, append_assoc, append-nil}
use Rattle.std.specs.List.{list_any, list_all}
use Rattle.std.proofs.Math.Seq.{drop-cons}
use Rattle.std.proofs.lemmas.List.{map_push, take_all, take_more, drop_all}
use Rattle.std.proofs.lemmas.List.Folds.{list_any-append}
use Rattle.std.proofs.lemmas.Bool.{and_parts, and_from}
use Rattle.pks_terms.specs.Sets.{Each, IsIn}
use Rattle.pks_terms.proofs.ListLaws.{each_in, each_of, or_false}
use Rattle.pks_laws.proofs.Least.{in_flat}

pub ruleset pushing = (map_push, append_assoc, append-nil)

pub ruleset parting = (list_any-append, append-nil)

-- what is gathered from one element after another
module _ {X Z Y : Type 0} (v : X → Z) (G : Z → List Y) (xs : List X) (old : List Y) where
  -- what is there once all that is left is added
  abbrev pub AddedFrom : ℕ → List Y → Type 0
  AddedFrom j m = m ++ flat_map G (map v (drop j xs)) ≡ old ++ flat_map G (map v xs)

  pub added_more : (j : ℕ) (d : X) (m n : List Y) → j < length xs → n ≡ m ++ G (v (get_or xs j d)) → AddedFrom j m → AddedFrom (j + 1) n
  added_more j d m n h e k =
      let next : j + 1 ≡ suc j = omega arith in
      let rest = flat_map G (map v (drop (suc j) xs)) in
      ap (λ i. n ++ flat_map G (map v (drop i xs))) next
      ∙ ap (λ ys. ys ++ rest) e
      ∙ append_assoc m (G (v (get_or xs j d))) rest
      ∙ ap (λ (ys : List X). m ++ flat_map G (map v ys)) (sym (drop-cons xs j d h))
      ∙ k

  pub added_all : (j : ℕ) (m : List Y) → length xs ≤ j → AddedFrom j m → m ≡ old ++ flat_map G (map v xs)
  added_all j m h k = sym (append-nil m) ∙ ap (λ (ys : List X). m ++ flat_map G (map v ys)) (sym (drop_all j xs h)) ∙ k

pub all_appended : {X : Type 0} (p : X → Bool) (xs ys : List X) → list_all p xs ≡ true → list_all p ys ≡ true → list_all p (xs ++ ys) ≡ true
all_appended p [] ys h k = k
all_appended p (x ∷ xs) ys h k = let q = and_parts (p x) (list_all p xs) h in and_from (p x) (list_all p (xs ++ ys)) q.0 (all_appended p xs ys q.1 k)

-- what holds of all that is gathered holds of what is gathered from one
pub each_flat_part : {X Y : Type 0} (P : Y → Type 0) (f : X → List Y) (xs : List X) (x : X) → IsIn x xs → Each P (flat_map f xs) → Each P (f x)
each_flat_part P f xs x i k = each_of P (f x) (λ y j. each_in P (flat_map f xs) y k (in_flat f xs x y i j))

-- one more
pub each_more : {X Y : Type 0} (P : Y → Type 0) (f : X → Y) (xs : List X) (k : ℕ) (d : X) → k < length xs → Each P (map f (take k xs)) → P (f (get_or xs k d)) → Each P (map f (take (k + 1) xs))
each_more P f [] k d h a q = absurd (omega arith)
each_more P f (x ∷ xs) zero d h a q = (q, tt)
each_more P f (x ∷ xs) (suc k) d h a q =
    let next : suc (k + 1) ≡ suc k + 1 = omega arith in
    subst (λ n. Each P (map f (take n (x ∷ xs)))) next (a.0, each_more P f xs k d (omega arith) a.1 q)

-- a flag that tells whether one was found so far, where what is asked of is as at first as long as none was
pub found_more : {X Y S : Type 0} (p : S → Y → Bool) (f : X → Y) (xs : List X) (k : ℕ) (d : X) (old now : S) (b c : Bool) → k < length xs → b ≡ list_any (p old) (map f (take k xs)) → (b ≡ false → now ≡ old) → c ≡ p now (f (get_or xs k d)) → (b || c) ≡ list_any (p old) (map f (take (k + 1) xs))
found_more p f xs k d old now b c h e same g =
    let y = f (get_or xs k d) in
    go b c (list_any (p old) (map f (take k xs))) (p old y) e (λ none. g ∙ ap (λ s. p s y) (same none))
    ∙ sym (ap (λ ys. list_any (p old) (map f ys)) (take_more xs k d h) ∙ ap (list_any (p old)) (map_push f (take k xs) (get_or xs k d)) ∙ list_any-append (p old) (map f (take k xs)) (y ∷ []) ∙ ap (λ a. list_any (p old) (map f (take k xs)) || a) (or_false (p old y)))
  where
    go : (b c x y : Bool) → b ≡ x → (b ≡ false → c ≡ y) → (b || c) ≡ (x || y)
    go true c x y e g = ap (λ z. z || y) e
    go false c x y e g = g refl ∙ ap (λ z. z || y) e

-- the first and the others
pub first_and_others : {X Y : Type 0} (f : X → Y) (xs : List X) (d : X) → 1 ≤ length xs → map f xs ≡ f (get_or xs 0 d) ∷ map f (take (length xs - 1) (drop 1 xs))
first_and_others f [] d h = absurd (omega arith)
first_and_others f (x ∷ xs) d h = λ i. f x ∷ map f (sym (take_all (length (x ∷ xs) - 1) xs (omega arith)) i)
