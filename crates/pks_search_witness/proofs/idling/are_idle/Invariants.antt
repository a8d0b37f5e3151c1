use Rattle.std.proofs.Common.{◌≡◌, drop, map}
use Rattle.std.specs.List.{list_all}
use Rattle.pks_terms.specs.Actions.{effect_at}
use Rattle.pks_terms.specs.Views.{given_of, effect_of}
use Rattle.pks_world.specs.Contents.{world_of}
use Rattle.pks_search_witness.specs.Idle.{is_idle}
use Rattle.pks_search_witness.proofs.idling.are_idle.Given as goal

abbrev pub invariant-loop-e : goal.invariant-loop-e
invariant-loop-e l = list_all (is_idle (world_of l.w)) (map (effect_at (given_of l.i)) (map effect_of (drop l.e-index l.effects))) ≡ list_all (is_idle (world_of l.w)) (map (effect_at (given_of l.i)) (map effect_of l.effects))
