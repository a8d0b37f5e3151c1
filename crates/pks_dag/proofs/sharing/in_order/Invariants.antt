use Rattle.std.proofs.Common.{◌≡◌, ◌++◌}
use Rattle.pks_dag.proofs.sharing.in_order.Given as goal

abbrev pub invariant-loop-node : goal.invariant-loop-node
invariant-loop-node l = l.list.items ++ l.node-iterator ≡ l.fn.nodes.keys
