use Rattle.pks_plan.specs.TreeViews.{tree_of, chain_of}
use Rattle.pks_agent.proofs.Sizes.{size, size_in}
use Rattle.pks_agent.proofs.dialogue.+dialogue.Given as goal

abbrev pub decreases-walk : goal.decreases-walk
decreases-walk g l = size (tree_of l.t.now)

abbrev pub decreases-walk_case : goal.decreases-walk_case
decreases-walk_case g l = size_in (chain_of l.sought.cases.now)
