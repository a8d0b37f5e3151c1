use Rattle.pks_explain_replay.proofs.replaying.Replay.+best_line.Given as goal

abbrev pub decreases-best_line : goal.decreases-best_line
decreases-best_line l = l.m
