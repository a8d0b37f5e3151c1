use Rattle.std.proofs.Common.{◌≡◌}
use Rattle.pks_terms.specs.Counts.{InstanceCounts, EffectCounts}
use Rattle.pks_terms.specs.Sets.{Each}
use Rattle.pks_terms.specs.Views.{given_of, target_of}
use Rattle.pks_world.specs.Contents.{world_of, places_of}
use Rattle.pks_world.specs.Counts.{WorldCounts}
use Rattle.pks_world.specs.Applied.{IsNumbered, StayListed}
use Rattle.pks_world.proofs.Effects.{written_from}
use Rattle.pks_world.proofs.worlds.World.write_all.Given as goal

abbrev pub invariant-loop-effect : goal.invariant-loop-effect
invariant-loop-effect l = record {
  world : Each (λ e. IsNumbered (target_of e.target)) l.effects → written_from (world_of l.old) (given_of l.i) l.effects l.effect-index (world_of l.self) ≡ written_from (world_of l.old) (given_of l.i) l.effects 0 (world_of l.fn.self);
  places : StayListed (places_of l.fn.self) (places_of l.self);
  counts : Each EffectCounts l.effects → InstanceCounts l.i → WorldCounts l.fn.self → WorldCounts l.self;
}
