-- Each place of a signature has a value exactly where the walk over them finds none without.
use Rattle.std.proofs.Common.{◌≡◌, ◌+◌, ℕ, zero, suc, Bool, true, List, [], ◌∷◌, ◌++◌, slice_get, Some, refl, sym, subst, arith, append-nil, append_assoc}
use Rattle.std.specs.List.{list_all}
use Rattle.std.proofs.lemmas.Bool.{and_parts, and_from}
use Rattle.std.proofs.lemmas.Option.{none-some, same_Some}
use Rattle.pks_terms.specs.Sets.{IsIn}
use Rattle.pks_terms.specs.Syntax.{place}
use Rattle.pks_terms.specs.Signatures.{Shape, Signature, objects_of}
use Rattle.pks_terms.specs.Meaning.{AreOfTypes}
use Rattle.pks_terms.proofs.ListLaws.{each_in, each_of, each_from_all, all_from_each}
use Rattle.pks_reader_world.specs.Facts.{Given}
use Rattle.pks_reader_world.specs.Places.{all_given, have_values, is_full, IsFull}

each_passes : (p : ℕ → Bool) (xs : List ℕ) (x : ℕ) → list_all p xs ≡ true → IsIn x xs → p x ≡ true
each_passes p xs x h i = each_in (λ y. p y ≡ true) xs x (each_from_all (λ y. p y ≡ true) p (λ y e. e) xs h) i

all_pass : (p : ℕ → Bool) (xs : List ℕ) → ((x : ℕ) → IsIn x xs → p x ≡ true) → list_all p xs ≡ true
all_pass p xs h = all_from_each p xs (each_of (λ y. p y ≡ true) xs h)

module _ (s : Signature) (given : Given) where
  -- the value at one place
  one_given : (f : ℕ) (tys ds es : List ℕ) → all_given s given f ds tys ≡ true → AreOfTypes s tys es → given (place f (ds ++ es)) ≡ true
  one_given f [] ds [] h t = subst (λ (xs : List ℕ). given (place f xs) ≡ true) (sym (append-nil ds)) h
  one_given f [] ds (e ∷ es) h t = absurd t
  one_given f (a ∷ tys) ds [] h t = absurd t
  one_given f (a ∷ tys) ds (e ∷ es) h t =
      subst (λ (xs : List ℕ). given (place f xs) ≡ true) (append_assoc ds (e ∷ []) es)
      (one_given f tys (ds ++ e ∷ []) es (each_passes (λ d. all_given s given f (ds ++ d ∷ []) tys) (objects_of s a) e h t.0) t.1)

  every_given : (f : ℕ) (tys ds : List ℕ) → ((es : List ℕ) → AreOfTypes s tys es → given (place f (ds ++ es)) ≡ true) → all_given s given f ds tys ≡ true
  every_given f [] ds h = subst (λ (xs : List ℕ). given (place f xs) ≡ true) (append-nil ds) (h [] tt)
  every_given f (a ∷ tys) ds h =
      all_pass (λ d. all_given s given f (ds ++ d ∷ []) tys) (objects_of s a)
      (λ d i. every_given f tys (ds ++ d ∷ []) (λ es t. subst (λ (xs : List ℕ). given (place f xs) ≡ true) (sym (append_assoc ds (d ∷ []) es)) (h (d ∷ es) (i, t))))

  one_has : (n : ℕ) (xs : List Shape) (k : ℕ) (x : Shape) → have_values s given n xs ≡ true → slice_get xs k ≡ Some x → all_given s given (n + k) [] x.arguments ≡ true
  one_has n [] k x h e = absurd (none-some x e)
  one_has n (y ∷ ys) zero x h e =
      let both = and_parts (all_given s given n [] y.arguments) (have_values s given (n + 1) ys) h in
      let z : n ≡ n + zero = omega arith in
      subst (λ m. all_given s given m [] x.arguments ≡ true) z (subst (λ (w : Shape). all_given s given n [] w.arguments ≡ true) (same_Some y x e) both.0)
  one_has n (y ∷ ys) (suc k) x h e =
      let both = and_parts (all_given s given n [] y.arguments) (have_values s given (n + 1) ys) h in
      let z : (n + 1) + k ≡ n + suc k = omega arith in
      subst (λ m. all_given s given m [] x.arguments ≡ true) z (one_has (n + 1) ys k x both.1 e)

  all_have : (n : ℕ) (xs : List Shape) → ((k : ℕ) (x : Shape) → slice_get xs k ≡ Some x → all_given s given (n + k) [] x.arguments ≡ true) → have_values s given n xs ≡ true
  all_have n [] h = refl
  all_have n (y ∷ ys) h =
      let z : n + zero ≡ n = omega arith in
      and_from (all_given s given n [] y.arguments) (have_values s given (n + 1) ys)
      (subst (λ m. all_given s given m [] y.arguments ≡ true) z (h zero y refl))
      (all_have (n + 1) ys (λ k x e. let w : n + suc k ≡ (n + 1) + k = omega arith in subst (λ m. all_given s given m [] x.arguments ≡ true) w (h (suc k) x e)))

  pub full_covers : is_full s given ≡ true → IsFull s given
  unfolding is_full
  full_covers h = λ f ds x e t.
      let z : 0 + f ≡ f = omega arith in
      one_given f x.arguments [] ds (subst (λ m. all_given s given m [] x.arguments ≡ true) z (one_has 0 s.functions f x h e)) t

  pub covers_full : IsFull s given → is_full s given ≡ true
  unfolding is_full
  covers_full h = all_have 0 s.functions (λ k x e. let z : k ≡ 0 + k = omega arith in subst (λ m. all_given s given m [] x.arguments ≡ true) z (every_given k x.arguments [] (λ es t. h k es x e t)))
