use Rattle.std.proofs.Common.{[]}
use Rattle.pks_terms.specs.Nodes.{last_depth}
use Rattle.pks_dag.specs.NodeViews.{nodes_of}
use Rattle.pks_dag.proofs.Walks.{gathered}
use Rattle.pks_dag.proofs.printing.last_depth.Goals as goal

pub loop-node-preserved : goal.loop-node-preserved
loop-node-preserved c =
    gathered c.args.nodes.now (last_depth [] 0 (nodes_of c.args.nodes.now)) c.loop-node.node-index c.node-item.result c.loop-node.depths.items c.as_slice.result.now c.push.new.self.items c.loop-node.last c.depth_of-last.result
    c.loop-node-test.true c.node-item.is c.as_slice.ensures.value c.depth_of-last.ensures.depth c.depth_of-last.ensures.within c.in_ok-push.ensures.items c.loop-node.invariant
