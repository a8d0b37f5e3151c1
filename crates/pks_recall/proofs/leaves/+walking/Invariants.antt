use Rattle.pks_plan.specs.TreeViews.{tree_of, chain_of}
use Rattle.pks_history_replay.proofs.Sizes.{size, size_in}
use Rattle.pks_recall.proofs.leaves.+walking.Given as goal

abbrev pub decreases-add_leaves : goal.decreases-add_leaves
decreases-add_leaves l = size (tree_of l.t.now)

abbrev pub decreases-add_leaves_of_each : goal.decreases-add_leaves_of_each
decreases-add_leaves_of_each l = size_in (chain_of l.k.now)
