-- What a witness is worth.
use Rattle.std.specs.Prelude.{ℕ, Bool, true, Option, Some, None, nat_lt}
use Rattle.pks_terms.specs.Worlds.{World}
use Rattle.pks_terms.specs.Problems.{Problem}
use Rattle.pks_search_distance.specs.Levels.{IsBound}
use Rattle.pks_world.specs.Contents.{world_of}
use Rattle.pks_search_witness.specs.declared.witness.Witness.{Witness}

-- its world
abbrev pub world_in : Witness → World
world_in x = world_of x.world.value

-- its bound holds of its world
abbrev pub IsCounted : Problem → Witness → Type 0
IsCounted p x = IsBound p (world_in x) x.needs

-- the bound is above n, or there is none
abbrev pub is_above : Option ℕ → ℕ → Bool
is_above (Some k) n = nat_lt n k
is_above None n = true

-- the goal is more than n actions away
abbrev pub is_beyond : Witness → ℕ → Bool
is_beyond x n = is_above x.needs n
