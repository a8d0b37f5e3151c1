-- Lists that are a renaming there and back, and values that are equal where the program says so.
use Rattle.std.proofs.Common.{take, drop, get_or, ◌-◌, [], ◌∷◌, take_all, ℕ, ◌≡◌, ◌<◌, ◌+◌, arith, ◌≤◌, inl, inr, List, length, map, refl, sym, ap, ◌∙◌, subst, Ordering, true}
use Rattle.std.specs.Prelude.{slice_get, unwrap_or, option_map}
use Rattle.std.specs.Ordering.{eq_by_cmp}
use Rattle.std.specs.Cmp.{Equal-is}
use Rattle.std.specs.FinMap.{IsAntisymmetric}
use Rattle.std.proofs.lemmas.Bool.{cases_lt}
use Rattle.std.proofs.lemmas.Option.{slice_get_past, slice_get-map}
use Rattle.pks_terms.specs.declared.ids.ObjId.{ObjId}
use Rattle.pks_terms.specs.declared.ids.TypeId.{TypeId}
use Rattle.pks_terms.specs.Sets.{Each, IsIn}
use Rattle.pks_terms.specs.Signatures.{Signature}
use Rattle.pks_terms.specs.Views.{object_of, types_of}
use Rattle.pks_laws_symmetry.specs.Renamed.{IsRenaming}
use Rattle.pks_search_symmetry.specs.Renaming.{image_by, IsTakenBack}

-- ---- equal values

pub tied_equal : {K : Type 0} {R : K → K → Ordering} → IsAntisymmetric R → (x y : K) → eq_by_cmp R x y ≡ true → x ≡ y
tied_equal {R = R} tells x y e = tells x y ((Equal-is (R x y)).0 e)

-- ---- renamings

pub image_past : (to : List ObjId) (d : ℕ) → length to ≤ d → image_by to d ≡ d
image_past to d h = ap (λ o. unwrap_or o d) (slice_get-map object_of to d ∙ ap (option_map object_of) (slice_get_past to d h))

module _ (ts : List TypeId) (to back : List ObjId) (long : length to ≡ length ts) (wide : length back ≡ length ts) where
  taken_past : (d : ℕ) → length ts ≤ d → IsTakenBack (types_of ts) (image_by to) (image_by back) d
  taken_past d h =
      let here : image_by to d ≡ d = image_past to d (subst (λ n. n ≤ d) (sym long) h) in
      let again : image_by back d ≡ d = image_past back d (subst (λ n. n ≤ d) (sym wide) h) in
      record {
        back = ap (image_by back) here ∙ again;
        there = ap (image_by to) again ∙ here;
        types = ap (slice_get (types_of ts)) here;
      }

  taken_all : ((d : ℕ) → d < length ts → IsTakenBack (types_of ts) (image_by to) (image_by back) d) → (d : ℕ) → IsTakenBack (types_of ts) (image_by to) (image_by back) d
  taken_all within d = elim (cases_lt d (length ts)) [ inl h ↦ within d h | inr h ↦ taken_past d h ]

  pub renaming_taken : ((d : ℕ) → d < length ts → IsTakenBack (types_of ts) (image_by to) (image_by back) d) → (s : Signature) → s.objects ≡ types_of ts → IsRenaming s (image_by to) (image_by back)
  renaming_taken within s e = record {
    back = λ d. (taken_all within d).back;
    there = λ d. (taken_all within d).there;
    types = λ d. subst (λ objects. slice_get objects (image_by to d) ≡ slice_get objects d) (sym e) (taken_all within d).types;
  }

-- so one place further on
pub taken_more :
    {T : ℕ → Type 0} (n : ℕ)
    → ((d : ℕ) → d < n → T d)
    → T n
    → (d : ℕ) → d < n + 1 → T d
taken_more {T} n before here d h = elim (cases_lt d n) [ inl k ↦ before d k | inr k ↦ subst T (omega (arith, h, k)) here ]

-- ---- lists

-- each element, where the first and the others are
pub each_from :
    {X A : Type 0} (P : A → Type 0) (v : X → A) (xs : List X) (x : X)
    → 1 ≤ length xs
    → x ≡ get_or xs 0 x
    → P (v x)
    → Each P (map v (take (length xs - 1) (drop 1 xs)))
    → Each P (map v xs)
each_from P v [] x h i p e = absurd (omega (arith, h))
each_from P v (y ∷ ys) x h i p e = (subst (λ z. P (v z)) i p, subst (λ zs. Each P (map v zs)) (take_all (length (y ∷ ys) - 1) ys (omega arith)) e)

-- the first is a member
pub first_in : {X A : Type 0} (v : X → A) (xs : List X) (x : X) → 1 ≤ length xs → IsIn (v (get_or xs 0 x)) (map v xs)
first_in v [] x h = absurd (omega (arith, h))
first_in v (y ∷ ys) x h = inl refl

-- a member of the others is a member
pub rest_in : {X A : Type 0} (v : X → A) (xs : List X) → 1 ≤ length xs → (a : A) → IsIn a (map v (take (length xs - 1) (drop 1 xs))) → IsIn a (map v xs)
rest_in v [] h a i = absurd (omega (arith, h))
rest_in v (y ∷ ys) h a i = inr (subst (λ zs. IsIn a (map v zs)) (take_all (length (y ∷ ys) - 1) ys (omega arith)) i)

-- each member, where the first and the others are
pub members_from :
    {X A : Type 0} (P : A → Type 0) (v : X → A) (xs : List X) (x : X)
    → 1 ≤ length xs
    → P (v (get_or xs 0 x))
    → ((a : A) → IsIn a (map v (take (length xs - 1) (drop 1 xs))) → P a)
    → (a : A) → IsIn a (map v xs) → P a
members_from P v [] x h p e a m = absurd (omega (arith, h))
members_from P v (y ∷ ys) x h p e a (inl i) = subst P i p
members_from P v (y ∷ ys) x h p e a (inr i) = e a (subst (λ zs. IsIn a (map v zs)) (sym (take_all (length (y ∷ ys) - 1) ys (omega arith))) i)
