use Rattle.std.proofs.Common.{◌≡◌, ◌≤◌, map, drop, length}
use Rattle.pks_terms.specs.Branching.{numbered}
use Rattle.pks_terms.specs.Views.{schema_of}
use Rattle.pks_branch.specs.WalkViews.{beginnings_of}
use Rattle.pks_branch.specs.Walks.{bare}
use Rattle.pks_branch.proofs.walking.bare_instances.Given as goal

abbrev pub invariant-down : goal.invariant-down
invariant-down l = (l.k ≤ length l.schemas) × (beginnings_of l.all.items ≡ map bare (numbered l.k (map schema_of (drop l.k l.schemas))))

abbrev pub decreases-down : goal.decreases-down
decreases-down l = l.k
