-- Histories compared from a moment on.
use Rattle.std.proofs.Common.{◌≡◌, ◌+◌, ℕ, zero, suc, List, [], ◌∷◌, map, Some, None, is_some, drop, sym, ap, ◌∙◌, subst, unwrap_or, true≢false, arith}
use Rattle.std.specs.List.{slice_get}
use Rattle.pks_terms.specs.Databases.{Five}
use Rattle.pks_terms.specs.Actions.{Instance}
use Rattle.pks_terms.specs.Settling.{History}
use Rattle.pks_history.specs.Moments.{databases_at, instance_after}
use Rattle.pks_laws_symmetry.specs.Renamed.{renamed_instance, AreImages, AreImageSteps}

some_is : {X : Type 0} (x y : X) → Some x ≡ Some y → x ≡ y
some_is x y e = ap (λ o. unwrap_or o x) e

none_is : {X : Type 0} (x : X) → None ≡ Some x → ⊥
none_is x e = true≢false (sym (ap is_some e))

one_plus : (n : ℕ) → n + 1 ≡ suc n
one_plus n = omega arith

module _ (f g : ℕ → ℕ) where
  one_more :
      (xs ys : List (Instance × Five)) (n : ℕ) (i j : Instance) (d e : Five)
      → slice_get (map (λ step. step.0) xs) n ≡ Some i → slice_get (map (λ step. step.0) ys) n ≡ Some j
      → slice_get (map (λ step. step.1) xs) n ≡ Some d → slice_get (map (λ step. step.1) ys) n ≡ Some e
      → renamed_instance f i ≡ j → AreImages f g d e → AreImageSteps f g (drop (suc n) xs) (drop (suc n) ys) → AreImageSteps f g (drop n xs) (drop n ys)
  one_more [] ys zero i j d e p p' q q' r a s = absurd (none_is i p)
  one_more [] ys (suc n) i j d e p p' q q' r a s = absurd (none_is i p)
  one_more (x ∷ xs) [] zero i j d e p p' q q' r a s = absurd (none_is j p')
  one_more (x ∷ xs) [] (suc n) i j d e p p' q q' r a s = absurd (none_is j p')
  one_more (x ∷ xs) (y ∷ ys) zero i j d e p p' q q' r a s = (
    ap (renamed_instance f) (some_is x.0 i p) ∙ r ∙ sym (some_is y.0 j p'),
    subst (λ z. AreImages f g x.1 z) (sym (some_is y.1 e q')) (subst (λ z. AreImages f g z e) (sym (some_is x.1 d q)) a),
    s,
  )
  one_more (x ∷ xs) (y ∷ ys) (suc n) i j d e p p' q q' r a s = one_more xs ys n i j d e p p' q q' r a s

  -- from the next moment to this one
  pub moved_back :
      (h k : History) (n : ℕ) (i j : Instance) (d e : Five)
      → instance_after h n ≡ Some i → instance_after k n ≡ Some j → databases_at h (n + 1) ≡ Some d → databases_at k (n + 1) ≡ Some e
      → renamed_instance f i ≡ j → AreImages f g d e → AreImageSteps f g (drop (n + 1) h.steps) (drop (n + 1) k.steps) → AreImageSteps f g (drop n h.steps) (drop n k.steps)
  moved_back h k n i j d e p p' q q' r a s =
      one_more h.steps k.steps n i j d e p p'
      (subst (λ m. databases_at h m ≡ Some d) (one_plus n) q) (subst (λ m. databases_at k m ≡ Some e) (one_plus n) q')
      r a (subst (λ m. AreImageSteps f g (drop m h.steps) (drop m k.steps)) (one_plus n) s)
