-- Going through the objects of each slot tells whether a world meets a region.
use Rattle.std.proofs.Common.{◌≡◌, ◌<◌, ◌≤◌, ◌+◌, ◌-◌, ◌==◌, ◌&&◌, ℕ, zero, suc, Bool, true, false, List, [], ◌∷◌, ◌++◌, length, slice_get, Option, Some, None, append_assoc, append-nil, arith, refl, sym, ap, ◌∙◌, subst, inl, inr, true≢false}
use Rattle.std.specs.List.{list_all}
use Rattle.std.specs.Option.{option_map_or}
use Rattle.std.proofs.lemmas.Bool.{and_parts, and_from, eqb-true, eq-eqb}
use Rattle.std.proofs.lemmas.Option.{slice_get_within}
use Rattle.pks_terms.specs.Sets.{Each, IsIn}
use Rattle.pks_terms.specs.Syntax.{Term}
use Rattle.pks_terms.specs.Signatures.{Signature, fits_type, objects_of, object_is_of}
use Rattle.pks_terms.specs.Worlds.{World, value_of}
use Rattle.pks_terms.specs.Meaning.{AreOfTypes, is_instance}
use Rattle.pks_terms.specs.Printed.{numbers_from}
use Rattle.pks_terms.proofs.Types.{objects_are_of}
use Rattle.pks_exec.specs.Instances.{all_instances}

-- ---- numbers

in_numbers : (d n k : ℕ) → n ≤ d → d < n + k → IsIn d (numbers_from n k)
in_numbers d n zero low high = absurd (omega arith)
in_numbers d n (suc k) low high =
    elim (n == d) as (λ b. (n == d) ≡ b → IsIn d (n ∷ numbers_from (n + 1) k)) [
      | true ↦ λ e. inl (eqb-true n d e)
      | false ↦ λ e. let other : n ≡ d → ⊥ = λ same. true≢false (sym (eq-eqb n d same) ∙ e) in inr (in_numbers d (n + 1) k (omega arith) (omega arith))
    ] refl

-- the numbers that are left
pub numbers_more : (d n : ℕ) → d < n → numbers_from d (n - d) ≡ d ∷ numbers_from (d + 1) (n - (d + 1))
numbers_more d n h = let e : n - d ≡ suc (n - (d + 1)) = omega arith in ap (numbers_from d) e

all_at : {X : Type 0} (p : X → Bool) (xs : List X) (x : X) → list_all p xs ≡ true → IsIn x xs → p x ≡ true
all_at p [] x h i = elim i [ ]
all_at p (y ∷ xs) x h (inl e) = subst (λ z. p z ≡ true) e (and_parts (p y) (list_all p xs) h).0
all_at p (y ∷ xs) x h (inr i) = all_at p xs x (and_parts (p y) (list_all p xs) h).1 i

not_all : {X : Type 0} (p : X → Bool) (xs : List X) → list_all p xs ≡ false → (x : X) × (p x ≡ false)
not_all p [] h = absurd (true≢false h)
not_all p (x ∷ xs) h =
    elim (p x) as (λ b. p x ≡ b → (b && list_all p xs) ≡ false → (y : _) × (p y ≡ false)) [
      | true ↦ λ e k. not_all p xs k
      | false ↦ λ e k. (x, e)
    ] refl h

-- ---- instances

module _ (w : World) (n : ℕ) (passes : List ℕ → Bool) where
  pub each_passes : (ss : List (Option Term)) (ds es : List ℕ) → all_instances w n passes ds ss ≡ true → is_instance w ss es ≡ true → Each (λ d. d < n) es → passes (ds ++ es) ≡ true
  each_passes [] ds [] all is below = subst (λ xs. passes xs ≡ true) (sym (append-nil ds)) all
  each_passes [] ds (e ∷ es) all is below = absurd (true≢false (sym is))
  each_passes (None ∷ ss) ds [] all is below = absurd (true≢false (sym is))
  each_passes (Some t ∷ ss) ds [] all is below = absurd (true≢false (sym is))
  each_passes (None ∷ ss) ds (e ∷ es) all is below =
      let high : e < 0 + n = omega (arith, below.0) in
      let here = all_at (λ d. all_instances w n passes (ds ++ d ∷ []) ss) (numbers_from 0 n) e all (in_numbers e 0 n (omega arith) high) in
      subst (λ xs. passes xs ≡ true) (append_assoc ds (e ∷ []) es) (each_passes ss (ds ++ e ∷ []) es here is below.1)
  each_passes (Some t ∷ ss) ds (e ∷ es) all is below =
      let parts = and_parts (value_of w t == e) (is_instance w ss es) is in
      let here = subst (λ d. all_instances w n passes (ds ++ d ∷ []) ss ≡ true) (eqb-true (value_of w t) e parts.0) all in
      subst (λ xs. passes xs ≡ true) (append_assoc ds (e ∷ []) es) (each_passes ss (ds ++ e ∷ []) es here parts.1 below.1)

  pub some_fails : (ss : List (Option Term)) (ds : List ℕ) → all_instances w n passes ds ss ≡ false → (es : List ℕ) × (is_instance w ss es ≡ true) × (passes (ds ++ es) ≡ false)
  some_fails [] ds not_so = ([], refl, subst (λ xs. passes xs ≡ false) (sym (append-nil ds)) not_so)
  some_fails (None ∷ ss) ds not_so =
      let found = not_all (λ d. all_instances w n passes (ds ++ d ∷ []) ss) (numbers_from 0 n) not_so in
      let rest = some_fails ss (ds ++ found.0 ∷ []) found.1 in
      (found.0 ∷ rest.0, rest.1, subst (λ xs. passes xs ≡ false) (append_assoc ds (found.0 ∷ []) rest.0) rest.2)
  some_fails (Some t ∷ ss) ds not_so =
      let d = value_of w t in
      let rest = some_fails ss (ds ++ d ∷ []) not_so in
      (d ∷ rest.0, and_from (d == d) (is_instance w ss rest.0) (eq-eqb d d refl) rest.1, subst (λ xs. passes xs ≡ false) (append_assoc ds (d ∷ []) rest.0) rest.2)

-- ---- objects of types

module _ (s : Signature) where
  object_below : (a d : ℕ) → IsIn d (objects_of s a) → d < length s.objects
  unfolding object_is_of
  object_below a d i =
      elim (slice_get s.objects d) as (λ (o : Option ℕ). slice_get s.objects d ≡ o → option_map_or (λ (own : ℕ). fits_type s own a) o false ≡ true → d < length s.objects) [
        | None ↦ λ e h. absurd (true≢false (sym h))
        | Some own ↦ λ e h. slice_get_within s.objects d own e
      ] refl (objects_are_of s a d i)

  pub objects_below : (tys ds : List ℕ) → AreOfTypes s tys ds → Each (λ d. d < length s.objects) ds
  objects_below [] [] typed = tt
  objects_below (a ∷ tys) (d ∷ ds) typed = (object_below a d typed.0, objects_below tys ds typed.1)
  objects_below [] (d ∷ ds) typed = absurd typed
  objects_below (a ∷ tys) [] typed = absurd typed
