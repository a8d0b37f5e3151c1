-- What the program's nodes say, apart from how they lie in memory.
use Rattle.std.specs.Prelude.{ℕ, List, map}
use Rattle.pks_terms.specs.Nodes.{Node, GoalNode, ImpossibleNode, DoNode, BranchNode, CasesNode}
use Rattle.pks_terms.specs.Views.{term_of, conj_of, instance_of}
use Rattle.pks_dag.specs.declared.nodes.CaseNode.{CaseNode}
use Rattle.pks_dag.specs.declared.nodes.Node as declared
use Rattle.pks_dag.specs.declared.nodes.Node.TheVariants as declared_is

-- an object and the number of its node
abbrev pub link_of : CaseNode → ℕ × ℕ
link_of c = (c.object.0, c.node)

-- a node
abbrev pub node_of : declared.Node → Node
node_of declared_is.Goal = GoalNode
node_of declared_is.Impossible = ImpossibleNode
node_of (declared_is.Act i next) = DoNode (instance_of i) next
node_of (declared_is.Branch c m n) = BranchNode (conj_of c) m n
node_of (declared_is.Cases x cases) = CasesNode (term_of x) (map link_of cases)

-- the nodes of a list
abbrev pub nodes_of : List declared.Node → List Node
nodes_of xs = map node_of xs
