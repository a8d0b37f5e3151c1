-- Looking up in closed databases by normal forms.
use Rattle.std.specs.Prelude.{Bool, List}
use Rattle.std.specs.List.{list_any}
use Rattle.std.specs.declared.cmp.Ordering.{Ordering}
use Rattle.std.specs.Ordering.{is_eq}
use Rattle.pks_terms.specs.Sets.{Each}
use Rattle.pks_terms.specs.Settling.{History}
use Rattle.pks_terms.specs.Moments.{AreInOrder}

-- x is a member of the set
abbrev pub is_among : {X : Type 0} → (X → X → Ordering) → X → List X → Bool
is_among cmp x xs = list_any (λ y. is_eq (cmp x y)) xs

-- the sides of equations stand in order at each moment
pub record IsInOrderAlong (h : History) : Type 0 where
  pub start : AreInOrder h.start
  pub steps : Each (λ step. AreInOrder step.1) h.steps
