-- What is right of a problem with fewer aims is so whichever of these it was left out of.
use Rattle.std.proofs.Common.{◌≡◌, ℕ, zero, suc, ◌++◌, List, [], ◌∷◌, take, drop, sym, ap, ◌∙◌}
use Rattle.pks_terms.specs.Sets.{Each}
use Rattle.pks_terms.specs.Problems.{Aim, Problem}
use Rattle.pks_terms.specs.Views.{problem_of}
use Rattle.pks_terms.proofs.ListLaws.{each_weaker}
use Rattle.pks_laws_forget.specs.Fewer.{with_aims}
use Rattle.pks_search.specs.declared.shelves.Shelved.{Shelved}
use Rattle.pks_search.specs.Shelves.{IsShelved}

module _ (p q : Problem) (e : q ≡ with_aims p q.goal) where
  on : (y : Shelved) → IsShelved p y → IsShelved q y
  on y k = record { valid = k.valid; aims = k.aims ∙ sym (ap (λ r. with_aims r (problem_of y.problem).goal) e); learned = k.learned }

  pub back : (y : Shelved) → IsShelved q y → IsShelved p y
  back y k = record { valid = k.valid; aims = k.aims ∙ ap (λ r. with_aims r (problem_of y.problem).goal) e; learned = k.learned }

  pub shelved_on : (ys : List Shelved) → Each (IsShelved p) ys → Each (IsShelved q) ys
  shelved_on ys k = each_weaker (IsShelved p) (IsShelved q) on ys k

  pub shelved_back : (ys : List Shelved) → Each (IsShelved q) ys → Each (IsShelved p) ys
  shelved_back ys k = each_weaker (IsShelved q) (IsShelved p) back ys k

-- a problem with other aims is the given one but for its aims
pub but_for_aims : (p q : Problem) (aims : List Aim) → q ≡ with_aims p aims → q ≡ with_aims p q.goal
but_for_aims p q aims e = e ∙ sym (ap (λ (r : Problem). with_aims p r.goal) e)

module _ {X : Type 0} (P : X → Type 0) where
  -- without the one at a place
  pub each_other : (xs : List X) (n : ℕ) → Each P xs → Each P (take n xs ++ drop (suc n) xs)
  each_other [] zero k = tt
  each_other [] (suc n) k = tt
  each_other (x ∷ xs) zero k = k.1
  each_other (x ∷ xs) (suc n) k = (k.0, each_other xs n k.1)
