use Rattle.pks_plan.specs.TreeViews.{tree_of}
use Rattle.pks_history_replay.specs.Walking.{state_of}
use Rattle.pks_history_replay.proofs.Readiness.{start_ready}
use Rattle.pks_explain.proofs.proving.prove_owed.Goals as goal

pub prove_from-requires : goal.prove_from-requires
prove_from-requires c = start_ready c.args.p.now (state_of c.in_ok-x.x) (tree_of c.args.t.now) c.requires.valid c.requires.justified c.requires.derived c.requires.depth c.in_ok-x.ensures
