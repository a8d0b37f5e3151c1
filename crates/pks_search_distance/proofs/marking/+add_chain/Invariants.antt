use Rattle.pks_search_distance.proofs.marking.+add_chain.Given as goal

abbrev pub decreases-add_chain : goal.decreases-add_chain
decreases-add_chain l = l.steps
