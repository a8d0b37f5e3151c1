use Rattle.std.proofs.Common.{◌+◌, map, ap, ◌∙◌}
use Rattle.pks_dag.specs.NodeViews.{node_of}
use Rattle.pks_dag.proofs.Inserting.{inserted, same_place}
use Rattle.pks_dag.proofs.sharing.note.Goals as goal

pub returns-clause-nodes : goal.returns-clause-nodes
returns-clause-nodes c = ap (map node_of) c.in_ok-place.ensures.keys ∙ inserted c.args.nodes.now.keys c.args.node

pub returns-clause-number : goal.returns-clause-number
returns-clause-number c = ap (λ n. n + 1) (c.in_ok-place.ensures.index ∙ same_place c.args.nodes.now.keys c.args.node)
