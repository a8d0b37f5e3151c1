-- How many actions unmet literals take, as the program counts it.
use Rattle.std.proofs.Common.{List, ◌≡◌, ◌+◌, ◌-◌, ◌/◌, ◌≤◌, ◌<◌, ℕ, zero, suc, min, Option, Some, None, option_map, sym, ap, ◌∙◌, subst, arith}
use Rattle.pks_terms.specs.Syntax.{Literal}
use Rattle.pks_terms.specs.Worlds.{World}
use Rattle.pks_terms.specs.Problems.{Problem}
use Rattle.pks_search_distance.specs.Levels.{IsBound}
use Rattle.pks_search_distance.specs.Unmet.{AreWanted, unmet, MeetsAtMost, fewest}
use Rattle.pks_search_distance.specs.Landmarks.{unmet_marks, AreLandmarks, ReachAtMost}
use Rattle.pks_search_distance.proofs.Meeting.{fewest_bounds, fewest_reached}

pub fewest_none : (m n : ℕ) → n ≡ 0 → fewest m n ≡ Some 0
fewest_none m n e = ap (fewest m) e

pub fewest_never : (m n : ℕ) → 0 < n → m ≡ 0 → fewest m n ≡ None
fewest_never m zero h e = absurd (omega (arith, h))
fewest_never m (suc n) h e = ap (λ k. fewest k (suc n)) e

pub fewest_some : (m n : ℕ) → 0 < n → 0 < m → fewest m n ≡ Some ((n - 1) / m + 1)
fewest_some m zero h k = absurd (omega (arith, h))
fewest_some zero (suc n) h k = absurd (omega (arith, k))
fewest_some (suc m) (suc n) h k =
    let same : n ≡ suc n - 1 = omega arith in
    ap (λ j. Some (j / suc m + 1)) same

pub cut_full : (most q : ℕ) → most ≤ q → most ≡ min most (q + 1)
cut_full most q h = omega (arith, h)

pub cut_short : (most q : ℕ) → q < most → q + 1 ≡ min most (q + 1)
cut_short most q h = omega (arith, h)

-- what holds of a bound holds of one that is cut off
pub cut_bounds : (p : Problem) (w : World) (most : ℕ) (o : Option ℕ) → IsBound p w o → IsBound p w (option_map (min most) o)
cut_bounds p w most (Some n) f k r = let h : n ≤ k = f k r in omega (arith, h)
cut_bounds p w most None f k r = f k r

pub least_bounds : (p : Problem) (w : World) (ls : List Literal) (m n most : ℕ) (o : Option ℕ) → AreWanted p ls → MeetsAtMost p ls m → n ≡ unmet w ls → o ≡ option_map (min most) (fewest m n) → IsBound p w o
least_bounds p w ls m n most o wanted few e k =
    subst (IsBound p w) (sym (k ∙ ap (λ j. option_map (min most) (fewest m j)) e)) (cut_bounds p w most (fewest m (unmet w ls)) (fewest_bounds p ls m few wanted w))

pub least_reached : (p : Problem) (w : World) (cs : List (List Literal)) (m n most : ℕ) (o : Option ℕ) → AreLandmarks p cs → ReachAtMost p cs m → n ≡ unmet_marks w cs → o ≡ option_map (min most) (fewest m n) → IsBound p w o
least_reached p w cs m n most o are few e k =
    subst (IsBound p w) (sym (k ∙ ap (λ j. option_map (min most) (fewest m j)) e)) (cut_bounds p w most (fewest m (unmet_marks w cs)) (fewest_reached p cs m few are w))
