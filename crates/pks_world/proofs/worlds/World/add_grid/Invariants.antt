use Rattle.std.proofs.Common.{◌≤◌, map}
use Rattle.pks_terms.specs.Counts.{AtomCounts}
use Rattle.pks_terms.specs.Sets.{Each}
use Rattle.pks_terms.specs.Views.{object_of, atom_of}
use Rattle.pks_world.specs.Contents.{world_of}
use Rattle.pks_world.specs.Observed.{plane}
use Rattle.pks_world.proofs.Gathering.{AddedFrom}
use Rattle.pks_world.proofs.worlds.World.add_grid.Given as goal

abbrev pub invariant-loop-d : goal.invariant-loop-d
invariant-loop-d l = record {
  says : AddedFrom (λ d. plane (world_of l.self) l.pred.0 l.n d (map object_of l.seconds) (map object_of l.thirds)) l.firsts (map atom_of l.fn.found.items) l.d-index (map atom_of l.found.items);
  counts : l.n ≤ 3 → Each AtomCounts l.fn.found.items → Each AtomCounts l.found.items;
}
