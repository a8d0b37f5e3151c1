use Rattle.pks_pmap.proofs.tree.BalancedTree.+build.Given as goal

abbrev pub decreases-build : goal.decreases-build
decreases-build g l = l.count
