use Rattle.std.proofs.Common.{◌≡◌, map, take}
use Rattle.pks_terms.specs.Counts.{InstanceCounts, ProblemCounts}
use Rattle.pks_terms.specs.Sets.{Each}
use Rattle.pks_terms.specs.Actions.{sense_at, seen}
use Rattle.pks_terms.specs.Views.{given_of, sense_of, signature_of}
use Rattle.pks_world.specs.Contents.{world_of}
use Rattle.pks_world.specs.Counts.{SeenCounts}
use Rattle.pks_world.specs.Observed.{seen_of, AreGround}
use Rattle.pks_world.proofs.worlds.World.observe.Given as goal

abbrev pub invariant-loop-sense : goal.invariant-loop-sense
invariant-loop-sense l = record {
  seen : map seen_of l.all.items ≡ map (λ x. seen (signature_of l.p.signature) (world_of l.self) (sense_at (given_of l.i) (sense_of x))) (take l.sense-index l.sense-items);
  ground : Each AreGround l.all.items;
  counts : ProblemCounts l.p → InstanceCounts l.i → Each SeenCounts l.all.items;
}
