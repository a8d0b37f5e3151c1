use Rattle.std.proofs.Common.{◌∙◌}
use Rattle.pks_terms.specs.Views.{names_of}
use Rattle.pks_dag.proofs.Walks.{line_printed}
use Rattle.pks_dag.proofs.printing.print_nodes.Goals as goal

pub loop-i-preserved : goal.loop-i-preserved
loop-i-preserved c =
    line_printed (names_of c.args.p.now) c.args.nodes.now c.loop-i.i c.index-nodes-i.result c.loop-i.out.items c.put_number.new.out.items c.put.new.out.items c.print_node.new.out.items c.put-in-loop-i.new.out.items
    c.loop-i-test.true c.index-nodes-i.is c.in_ok-put_number.ensures.ok c.in_ok-put.ensures.ok c.in_ok-print_node.ensures c.in_ok-put-2.ensures.ok
    ∙ c.loop-i.invariant
