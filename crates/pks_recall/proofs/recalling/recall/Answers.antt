use Rattle.pks_plan.specs.TreeViews.{tree_of}
use Rattle.pks_history_replay.specs.Walking.{state_of}
use Rattle.pks_history_replay.proofs.Readiness.{start_ready}
use Rattle.pks_recall.proofs.recalling.recall.Goals as goal

pub add_leaves-requires : goal.add_leaves-requires
add_leaves-requires c = start_ready c.args.p.now (state_of c.in_ok-x.x) (tree_of c.args.t.now) c.requires.valid c.requires.justified c.requires.derived c.requires.depth c.in_ok-x.ensures
