-- Texts of numbers in turn, that are appended one by one.
use Rattle.std.proofs.Common.{◌≡◌, ◌∙◌, ◌<◌, ◌≤◌, ◌+◌, ◌-◌, ◌++◌, ◌∷◌, [], ℕ, suc, List, append_assoc, append-nil, arith, refl, sym, ap}
use Rattle.std.specs.List.{flat_map}
use Rattle.pks_terms.specs.Printed.{Text, numbers_from}

-- one text behind another
pub both_appended : (old mid new a b : Text) → mid ≡ old ++ a → new ≡ mid ++ b → new ≡ old ++ (a ++ b)
both_appended old mid new a b e f = f ∙ (ap (λ x. x ++ b) e ∙ append_assoc old a b)

pub ruleset appended = (both_appended, append_assoc, append-nil)

module _ (f : ℕ → Text) where
  -- the texts from a number on
  abbrev pub from : ℕ → ℕ → Text
  from n i = flat_map f (numbers_from i (n + 1 - i))

  pub from_start : (n : ℕ) → from n 1 ≡ flat_map f (numbers_from 1 n)
  from_start n = let e : n + 1 - 1 ≡ n = omega arith in ap (λ k. flat_map f (numbers_from 1 k)) e

  pub from_more : (n i : ℕ) (old new : Text) → i < n + 1 → new ≡ old ++ f i → new ++ from n (i + 1) ≡ old ++ from n i
  from_more n i old new h e =
      let count : n + 1 - i ≡ suc (n + 1 - (i + 1)) = omega arith in
      ap (λ x. x ++ from n (i + 1)) e ∙ (append_assoc old (f i) (from n (i + 1)) ∙ ap (λ k. old ++ flat_map f (numbers_from i k)) (sym count))

  pub from_end : (n i : ℕ) (text : Text) → n + 1 ≤ i → text ++ from n i ≡ text
  from_end n i text h = let none : n + 1 - i ≡ 0 = omega arith in ap (λ k. text ++ flat_map f (numbers_from i k)) none ∙ append-nil text
