-- The table beside the ground actions, and what stands after a call.
use Rattle.std.proofs.Common.{◌⊎◌, inl, inr, Result, Ok, Err, OnOk, OnErr}
use Rattle.pks_terms.specs.Worlds.{World}
use Rattle.pks_terms.specs.Problems.{Problem}
use Rattle.pks_search_distance.specs.declared.counted.Counts.{Counts}
use Rattle.pks_search_distance.specs.declared.ground_actions.GroundActions.{GroundActions}
use Rattle.pks_search_distance.specs.Gained.{AreGroundActions}
use Rattle.pks_search_distance.specs.Remembered.{AreRight, AreItsGroundActions}

-- the ground actions are what they are, whatever the table says
pub beside : (p : Problem) (x : GroundActions) (t : Counts) (w : World) → AreGroundActions p x w → AreGroundActions p (record x { counts = t }) w
beside p x t w d = record { placed = d.placed; listed = d.listed; landmarks = d.landmarks; reached = d.reached }

pub with_table : (p : Problem) (x : GroundActions) (t : Counts) → AreItsGroundActions p x → AreRight p t → AreItsGroundActions p (record x { counts = t })
with_table p x t d r = record { listed = λ w. beside p x t w (d.listed w); wanted = d.wanted; few = d.few; counted = r }

-- what stands after either end
pub either : {X E : Type 0} (r : Result X E) (A B : Type 0) → OnOk r A → OnErr r B → A ⊎ B
either (Ok x) A B a b = inl a
either (Err e) A B a b = inr b
