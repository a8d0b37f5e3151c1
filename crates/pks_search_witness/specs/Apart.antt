-- Two worlds that an aim of the start tells apart.
use Rattle.std.specs.Prelude.{Bool, true, false, cond, not, ◌==◌, ◌≡◌, List}
use Rattle.pks_terms.specs.Sets.{IsIn}
use Rattle.pks_terms.specs.Syntax.{Literal}
use Rattle.pks_terms.specs.Worlds.{World, value_of, all_true_in}
use Rattle.pks_terms.specs.Queries.{KnowWhether}
use Rattle.pks_terms.specs.Actions.{Instance, Sense, SenseWhether, SenseValue, SenseAll}
use Rattle.pks_terms.specs.Problems.{Start, StartKf, StartKw, StartKv, StartKx, StartLcw, AtStart, Problem, StartAlike}
use Rattle.pks_terms.specs.Knowledge.{grounded, after_action, observations}
use Rattle.pks_world.specs.Contents.{world_of}
use Rattle.pks_search_witness.specs.declared.twins.Twins.{Twins}

-- the first of the two worlds
abbrev pub first_in : Twins → World
first_in x = world_of x.one.value

-- the second
abbrev pub second_in : Twins → World
second_in x = world_of x.other.value

-- the goal asks whether a formula was true at the start that is true in one of the worlds alone
abbrev pub AreApart : Problem → World → World → Type 0
AreApart p w w' = (c : List Literal) × IsIn (AtStart (record { asks = KnowWhether c; denied = false })) p.goal × (all_true_in w c ≡ all_true_in w' c → ⊥)

-- the problem may begin in both, they agree on what is known then, and the goal tells them apart
pub record AreFirst (p : Problem) (x : Twins) : Type 0 where
  pub alike : StartAlike p (first_in x) (second_in x)
  pub apart : AreApart p (first_in x) (second_in x)

-- the second twins are what the first become by the action, and the same is seen then in both worlds
pub record AreAfter (p : Problem) (i : Instance) (x y : Twins) : Type 0 where
  pub first : first_in y ≡ after_action p (first_in x) (grounded (first_in x) i)
  pub second : second_in y ≡ after_action p (second_in x) (grounded (second_in x) i)
  pub seen : observations p (first_in y) (grounded (first_in x) i) ≡ observations p (second_in y) (grounded (first_in x) i)

-- both or neither
abbrev pub are_equal : Bool → Bool → Bool
are_equal a b = cond a b (not b)

-- the worlds agree on the formula or the term of an initial item
abbrev pub agree_on : World → World → Start → Bool
agree_on w w' (StartKw c) = are_equal (all_true_in w c) (all_true_in w' c)
agree_on w w' (StartKv t) = value_of w t == value_of w' t
agree_on w w' (StartKf l) = true
agree_on w w' (StartKx g) = true
agree_on w w' (StartLcw x) = true

-- the sense surely finds the same in both worlds
abbrev pub finds_same : World → World → Sense → Bool
finds_same w w' (SenseWhether c) = are_equal (all_true_in w c) (all_true_in w' c)
finds_same w w' (SenseValue t) = value_of w t == value_of w' t
finds_same w w' (SenseAll x) = false
