use Rattle.std.proofs.Common.{◌+◌, ◌*◌}
use Rattle.pks_plan.specs.TreeViews.{tree_of, chain_of}
use Rattle.pks_history_replay.proofs.Sizes.{size, size_in}
use Rattle.pks_explain.proofs.proving.Prover.+proving.Given as goal

abbrev pub decreases-prove_act : goal.decreases-prove_act
decreases-prove_act l = 2 * size (tree_of l.next.now) + 1

abbrev pub decreases-prove_side : goal.decreases-prove_side
decreases-prove_side l = 2 * size (tree_of l.next.now) + 1

abbrev pub decreases-prove_cases : goal.decreases-prove_cases
decreases-prove_cases l = 2 * size_in (chain_of l.k.now)

abbrev pub decreases-prove : goal.decreases-prove
decreases-prove l = 2 * size (tree_of l.t.now)
