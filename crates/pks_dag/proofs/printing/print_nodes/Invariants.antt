use Rattle.std.proofs.Common.{◌≡◌, ◌+◌, ◌++◌, drop}
use Rattle.pks_terms.specs.Views.{names_of}
use Rattle.pks_dag.specs.NodeViews.{nodes_of}
use Rattle.pks_dag.specs.Lines.{node_lines}
use Rattle.pks_dag.proofs.printing.print_nodes.Given as goal

abbrev pub invariant-loop-i : goal.invariant-loop-i
invariant-loop-i l = l.out.items ++ node_lines (names_of l.p) (l.i + 1) (drop l.i (nodes_of l.nodes)) ≡ l.fn.out.items ++ node_lines (names_of l.p) 1 (nodes_of l.nodes)
