use Rattle.std.proofs.Common.{◌≤◌, map}
use Rattle.pks_terms.specs.Counts.{AtomCounts}
use Rattle.pks_terms.specs.Sets.{Each}
use Rattle.pks_terms.specs.Views.{object_of, atom_of}
use Rattle.pks_world.specs.Contents.{world_of}
use Rattle.pks_world.specs.Observed.{row}
use Rattle.pks_world.proofs.Gathering.{AddedFrom}
use Rattle.pks_world.proofs.worlds.World.add_plane.Given as goal

abbrev pub invariant-loop-e : goal.invariant-loop-e
invariant-loop-e l = record {
  says : AddedFrom (λ e. row (world_of l.self) l.pred.0 l.n l.d.0 e (map object_of l.thirds)) l.seconds (map atom_of l.fn.found.items) l.e-index (map atom_of l.found.items);
  counts : l.n ≤ 3 → Each AtomCounts l.fn.found.items → Each AtomCounts l.found.items;
}
