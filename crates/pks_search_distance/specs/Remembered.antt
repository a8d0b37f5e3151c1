-- What a table of bounds says.
use Rattle.std.specs.Prelude.{ℕ, Contains}
use Rattle.pks_terms.specs.Worlds.{World}
use Rattle.pks_terms.specs.Problems.{Problem}
use Rattle.pks_terms.specs.Views.{literals_in}
use Rattle.pks_world.specs.Contents.{world_of}
use Rattle.pks_search_distance.specs.Levels.{IsBound}
use Rattle.pks_search_distance.specs.Unmet.{AreWanted, MeetsAtMost}
use Rattle.pks_search_distance.specs.declared.counted.Counted.{Counted}
use Rattle.pks_search_distance.specs.declared.counted.Counts.{Counts}
use Rattle.pks_search_distance.specs.declared.ground_actions.GroundActions.{GroundActions}
use Rattle.pks_search_distance.specs.Gained.{AreGroundActions}

-- the entry's bound holds of its world, whatever history leads there
abbrev pub IsRight : Problem → Counted → Type 0
IsRight p x = IsBound p (world_of x.world.value) x.bound.needs

-- each entry of the table is right
abbrev pub AreRight : Problem → Counts → Type 0
AreRight p t = (mark : ℕ) (x : Counted) → Contains t.table.entries (mark, x) → IsRight p x

-- the ground actions are those of the problem, none of them meets more of the wanted literals than is noted, and the bounds that were counted are right
pub record AreItsGroundActions (p : Problem) (x : GroundActions) : Type 0 where
  pub listed : (w : World) → AreGroundActions p x w
  pub wanted : AreWanted p (literals_in x.wanted.items)
  pub few : MeetsAtMost p (literals_in x.wanted.items) x.met
  pub counted : AreRight p x.counts
