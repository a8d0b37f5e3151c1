-- Twins at a history: two worlds of which each may be the present one, and which come from two that an aim of the start tells apart.
use Rattle.std.specs.Prelude.{true, ◌≡◌, List, [], ◌∷◌, ◌⊎◌}
use Rattle.pks_terms.specs.Sets.{Each}
use Rattle.pks_terms.specs.Worlds.{World}
use Rattle.pks_terms.specs.Actions.{Instance}
use Rattle.pks_terms.specs.Problems.{Problem}
use Rattle.pks_terms.specs.Branching.{Choice, Side}
use Rattle.pks_terms.specs.Settling.{History, At}
use Rattle.pks_terms.specs.Trees.{Acts}
use Rattle.pks_terms.specs.Remembering.{Both}
use Rattle.pks_search_distance.specs.Runs.{world_after}
use Rattle.pks_search_witness.specs.declared.twins.Twins.{Twins}
use Rattle.pks_search_witness.specs.Apart.{first_in, second_in, AreApart}
use Rattle.pks_search.specs.Near.{is_so}

-- the history is true of two worlds that the goal tells apart, with the same known of both, and leads to these two
pub record MayBeTwins (p : Problem) (h : History) (v v' : World) : Type 0 where
  pub first : World
  pub second : World
  pub both : Both p first second h
  pub apart : AreApart p first second
  pub leads : world_after p first h ≡ v
  pub leads' : world_after p second h ≡ v'

-- so it is with the two worlds of the twins
abbrev pub AreTwins : Problem → History → Twins → Type 0
AreTwins p h x = MayBeTwins p h (first_in x) (second_in x)

-- so it is with each of them at the history after the action
abbrev pub AreTwinsAfter : Problem → History → Instance → List Twins → Type 0
AreTwinsAfter p h i xs = (g : History) → Acts p h i (At g) → Each (AreTwins p g) xs

-- the first world of the first twins is on the side, and the second twins are the same
pub record AreKept (c : Choice) (side : Side) (x y : Twins) : Type 0 where
  pub on : is_so (first_in x) c side ≡ true
  pub first : first_in y ≡ first_in x
  pub second : second_in y ≡ second_in x

-- some of the twins are one world
abbrev pub SomeMet : List Twins → Type 0
SomeMet [] = ⊥
SomeMet (x ∷ xs) = (first_in x ≡ second_in x) ⊎ SomeMet xs
