use Rattle.std.proofs.Common.{◌+◌, ◌*◌}
use Rattle.pks_plan.specs.TreeViews.{tree_of, chain_of}
use Rattle.pks_history_replay.proofs.Sizes.{size, size_in}
use Rattle.pks_explain.proofs.owing.+walking.Given as goal

abbrev pub decreases-add_behind : goal.decreases-add_behind
decreases-add_behind l = 2 * size (tree_of l.t.now) + 1

abbrev pub decreases-add_owed : goal.decreases-add_owed
decreases-add_owed l = 2 * size (tree_of l.t.now)

abbrev pub decreases-add_owed_in : goal.decreases-add_owed_in
decreases-add_owed_in l = 2 * size_in (chain_of l.k.now)
