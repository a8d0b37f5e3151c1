use Rattle.std.proofs.Common.{◌≤◌, [], ◌∷◌, map, take}
use Rattle.pks_terms.specs.Counts.{AtomCounts}
use Rattle.pks_terms.specs.Sets.{Each}
use Rattle.pks_terms.specs.Views.{atom_of}
use Rattle.pks_world.specs.Contents.{world_of}
use Rattle.pks_world.specs.Observed.{true_at}
use Rattle.pks_world.proofs.Gathering.{AddedFrom}
use Rattle.pks_world.proofs.worlds.World.add_row.Given as goal

abbrev pub invariant-loop-f : goal.invariant-loop-f
invariant-loop-f l = record {
  says : AddedFrom (λ f. true_at (world_of l.self) l.pred.0 (take l.n (l.d.0 ∷ l.e.0 ∷ f ∷ []))) l.others (map atom_of l.fn.found.items) l.f-index (map atom_of l.found.items);
  counts : l.n ≤ 3 → Each AtomCounts l.fn.found.items → Each AtomCounts l.found.items;
}
