use Rattle.std.proofs.Common.{◌≡◌, ◌≤◌, ◌++◌, map, drop, length}
use Rattle.pks_terms.specs.Views.{inner_of, instance_of}
use Rattle.pks_branch.specs.WalkViews.{beginnings_of}
use Rattle.pks_branch.specs.Walks.{longer}
use Rattle.pks_branch.proofs.walking.push_longer.Given as goal

abbrev pub invariant-down : goal.invariant-down
invariant-down l = (l.k ≤ length l.list) × (beginnings_of l.to.items ≡ map (longer (instance_of l.given)) (map inner_of (drop l.k l.list)) ++ beginnings_of l.fn.to.items)

abbrev pub decreases-down : goal.decreases-down
decreases-down l = l.k
