-- The first item that is broken.
use Rattle.std.proofs.Common.{◌≡◌, ◌<◌, ◌+◌, ◌++◌, ◌||◌, ℕ, suc, true, false, List, [], ◌∷◌, map, take, drop, length, get_or, add-one, is_eq, ⊎_elim, refl, sym, ap, ◌∙◌, subst, true≢false}
use Rattle.std.specs.List.{list_any}
use Rattle.std.specs.Cmp.{Equal-is}
use Rattle.std.proofs.Math.Seq.{drop-cons}
use Rattle.std.proofs.lemmas.List.{take_more, map-append}
use Rattle.pks_terms.specs.Sets.{Each}
use Rattle.pks_terms.specs.Worlds.{World}
use Rattle.pks_terms.specs.Syntax.{Pattern}
use Rattle.pks_terms.specs.Orders.{pattern_cmp}
use Rattle.pks_terms.specs.Problems.{Start, StartKf, StartKw, StartKv, StartKx, StartLcw, Problem}
use Rattle.pks_terms.specs.Answers.{Keeps, IsFirstBroken}
use Rattle.pks_terms.proofs.OrderLaws.{pattern_cmp_tells}
use Rattle.pks_exec.specs.Instances.{is_region}

module _ (p : Problem) (w : World) where
  -- no item is broken where all are kept
  pub none_broken : (xs : List Start) (k n : ℕ) → Each (Keeps p w) xs → IsFirstBroken p w xs k n → ⊥
  none_broken [] k n kept broken = broken
  none_broken (x ∷ xs) k n kept broken = ⊎_elim (λ b. b.0 kept.0) (λ b. none_broken xs (k + 1) n kept.1 b.1) broken

  -- there is one first
  pub one_broken : (xs : List Start) (k m n : ℕ) → IsFirstBroken p w xs k m → IsFirstBroken p w xs k n → m ≡ n
  one_broken [] k m n a b = absurd a
  one_broken (x ∷ xs) k m n a b =
      ⊎_elim (λ a. ⊎_elim (λ b. a.1 ∙ sym b.1) (λ b. absurd (a.0 b.0)) b)
      (λ a. ⊎_elim (λ b. absurd (b.0 a.0)) (λ b. one_broken xs (k + 1) m n a.1 b.1) b) a

-- a region that stands among kept items is kept
pub repeated_kept : (p : Problem) (w : World) (x : Pattern) (xs : List Start) → list_any (is_region x) xs ≡ true → Each (Keeps p w) xs → Keeps p w (StartLcw x)
repeated_kept p w x [] e kept = absurd (true≢false (sym e))
repeated_kept p w x (StartKf l ∷ xs) e kept = repeated_kept p w x xs e kept.1
repeated_kept p w x (StartKw c ∷ xs) e kept = repeated_kept p w x xs e kept.1
repeated_kept p w x (StartKv t ∷ xs) e kept = repeated_kept p w x xs e kept.1
repeated_kept p w x (StartKx g ∷ xs) e kept = repeated_kept p w x xs e kept.1
repeated_kept p w x (StartLcw y ∷ xs) e kept =
    elim (is_eq (pattern_cmp y x)) as (λ b. is_eq (pattern_cmp y x) ≡ b → (b || list_any (is_region x) xs) ≡ true → Keeps p w (StartLcw x)) [
      | true ↦ λ same h. subst (λ z. Keeps p w (StartLcw z)) (pattern_cmp_tells y x ((Equal-is (pattern_cmp y x)).0 same)) kept.0
      | false ↦ λ same h. repeated_kept p w x xs h kept.1
    ] refl e

-- one more item is kept
pub kept_further : (p : Problem) (w : World) (xs ys : List Start) (x : Start) → ys ≡ xs ++ x ∷ [] → Each (Keeps p w) xs → Keeps p w x → Each (Keeps p w) ys
kept_further p w xs ys x e kept k = subst (Each (Keeps p w)) (sym e) (all xs kept)
  where
    all : (zs : List Start) → Each (Keeps p w) zs → Each (Keeps p w) (zs ++ x ∷ [])
    all [] h = (k, tt)
    all (z ∷ zs) h = (h.0, all zs h.1)

-- the next item, and those behind it
pub next_item : {X Y : Type 0} (f : X → Y) (xs : List X) (k : ℕ) (x : X) → k < length xs → x ≡ get_or xs k x → map f (drop k xs) ≡ f x ∷ map f (drop (k + 1) xs)
next_item f xs k x h e = ap (map f) (drop-cons xs k x h) ∙ (ap (λ y. f y ∷ map f (drop (suc k) xs)) (sym e) ∙ ap (λ j. f x ∷ map f (drop j xs)) (sym (add-one k)))

-- the items up to and with the next one
pub taken : {X Y : Type 0} (f : X → Y) (xs : List X) (k : ℕ) (x : X) → k < length xs → x ≡ get_or xs k x → map f (take (k + 1) xs) ≡ map f (take k xs) ++ f x ∷ []
taken f xs k x h e = ap (map f) (take_more xs k x h) ∙ (map-append f (take k xs) (get_or xs k x ∷ []) ∙ ap (λ y. map f (take k xs) ++ f y ∷ []) (sym e))
