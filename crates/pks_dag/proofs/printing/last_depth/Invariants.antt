use Rattle.std.proofs.Common.{[]}
use Rattle.pks_terms.specs.Nodes.{last_depth}
use Rattle.pks_dag.specs.NodeViews.{nodes_of}
use Rattle.pks_dag.proofs.Walks.{Gathered}
use Rattle.pks_dag.proofs.printing.last_depth.Given as goal

abbrev pub invariant-loop-node : goal.invariant-loop-node
invariant-loop-node l = Gathered l.nodes (last_depth [] 0 (nodes_of l.nodes)) l.node-index l.depths.items l.last
