-- Tests of some and of all elements of lists.
use Rattle.std.proofs.Common.{◌≡◌, ◌&&◌, ◌||◌, Bool, true, false, List, [], ◌∷◌, ◌++◌, flat_map, Option, Some, None, refl, sym, ap, ◌∙◌}
use Rattle.std.specs.List.{list_any, list_all, cons_option}
use Rattle.std.specs.Option.{option_map_or}
use Rattle.pks_proof_cited.proofs.Others.{any_alike, and_again}

pub and_no : (b : Bool) → (b && false) ≡ false
and_no true = refl
and_no false = refl

or_no : (b : Bool) → (b || false) ≡ b
or_no true = refl
or_no false = refl

or_twice : (a b c d : Bool) → ((a || b) || (c || d)) ≡ ((a || c) || (b || d))
or_twice true b c d = refl
or_twice false true true d = refl
or_twice false true false d = refl
or_twice false false c d = refl

pub and_or : (b c d : Bool) → (b && (c || d)) ≡ ((b && c) || (b && d))
and_or true c d = refl
and_or false c d = refl

module _ {X : Type 0} where
  pub any_none : (xs : List X) → list_any (λ x. false) xs ≡ false
  any_none [] = refl
  any_none (x ∷ xs) = any_none xs

  pub and_any : (b : Bool) (p : X → Bool) (xs : List X) → (b && list_any p xs) ≡ list_any (λ x. b && p x) xs
  and_any b p [] = and_no b
  and_any b p (x ∷ xs) = and_or b (p x) (list_any p xs) ∙ ap (λ c. (b && p x) || c) (and_any b p xs)

  pub any_or : (p q : X → Bool) (xs : List X) → (list_any p xs || list_any q xs) ≡ list_any (λ x. p x || q x) xs
  any_or p q [] = refl
  any_or p q (x ∷ xs) = or_twice (p x) (list_any p xs) (q x) (list_any q xs) ∙ ap (λ c. (p x || q x) || c) (any_or p q xs)

  pub all_append : (p : X → Bool) (xs ys : List X) → list_all p (xs ++ ys) ≡ (list_all p xs && list_all p ys)
  all_append p [] ys = refl
  all_append p (x ∷ xs) ys = ap (λ c. p x && c) (all_append p xs ys) ∙ and_again (p x) (list_all p xs) (list_all p ys)

  pub all_alike : (p q : X → Bool) → ((x : X) → p x ≡ q x) → (xs : List X) → list_all p xs ≡ list_all q xs
  all_alike p q h [] = refl
  all_alike p q h (x ∷ xs) = ap (λ b. b && list_all p xs) (h x) ∙ ap (λ b. q x && b) (all_alike p q h xs)

  -- some of two values that may be there
  pub any_two : (f : X → Bool) (o o' : Option X) → list_any f (cons_option o (cons_option o' [])) ≡ (option_map_or f o false || option_map_or f o' false)
  any_two f None None = refl
  any_two f None (Some y) = or_no (f y)
  any_two f (Some x) None = refl
  any_two f (Some x) (Some y) = ap (λ b. f x || b) (or_no (f y))

  -- a value that may be there, before others
  pub front_value : (o : Option X) (xs ys : List X) → cons_option o [] ≡ xs → cons_option o ys ≡ xs ++ ys
  front_value None xs ys e = ap (λ zs. zs ++ ys) e
  front_value (Some x) xs ys e = ap (λ zs. zs ++ ys) e

module _ {X Y : Type 0} where
  pub all_flat : (p : Y → Bool) (f : X → List Y) (xs : List X) → list_all p (flat_map f xs) ≡ list_all (λ x. list_all p (f x)) xs
  all_flat p f [] = refl
  all_flat p f (x ∷ xs) = all_append p (f x) (flat_map f xs) ∙ ap (λ c. list_all p (f x) && c) (all_flat p f xs)

  any_swap : (f : X → Y → Bool) (xs : List X) (ys : List Y) → list_any (λ x. list_any (f x) ys) xs ≡ list_any (λ y. list_any (λ x. f x y) xs) ys
  any_swap f [] ys = sym (any_none ys)
  any_swap f (x ∷ xs) ys = ap (λ c. list_any (f x) ys || c) (any_swap f xs ys) ∙ any_or (f x) (λ y. list_any (λ x. f x y) xs) ys

  -- some element that passes has some of these, or one of these is had by some element that passes
  pub any_commuted : (a : X → Bool) (p r : X → Y → Bool) → ((x : X) (y : Y) → r x y ≡ (a x && p x y)) → (b : Bool) (xs : List X) (ys : List Y)
      → list_any (λ x. a x && (b && list_any (p x) ys)) xs ≡ (b && list_any (λ y. list_any (λ x. r x y) xs) ys)
  any_commuted a p r h b xs ys =
      any_alike (λ x. a x && (b && list_any (p x) ys)) (λ x. b && list_any (r x) ys) (λ x. inside (a x) b (list_any (p x) ys) ∙ ap (λ c. b && c) (and_any (a x) (p x) ys ∙ any_alike (λ y. a x && p x y) (r x) (λ y. sym (h x y)) ys)) xs
      ∙ sym (and_any b (λ x. list_any (r x) ys) xs)
      ∙ ap (λ c. b && c) (any_swap r xs ys)
    where
      inside : (a b c : Bool) → (a && (b && c)) ≡ (b && (a && c))
      inside true true c = refl
      inside true false c = refl
      inside false true c = refl
      inside false false c = refl
