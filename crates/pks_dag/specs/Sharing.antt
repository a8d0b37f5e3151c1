-- The nodes of a tree, made one after another.
use Rattle.std.specs.Prelude.{ℕ, ◌+◌, cond, List, [], ◌∷◌, ◌++◌}
use Rattle.std.specs.List.{list_any, position_or_len}
use Rattle.pks_terms.specs.Trees.{Tree, Goal, Impossible, Do, Branch, Cases, Chain, End, More}
use Rattle.pks_terms.specs.Nodes.{Node, GoalNode, ImpossibleNode, DoNode, BranchNode, CasesNode}
use Rattle.pks_dag.specs.NodeEquality.{same_node}

-- the nodes with one that goes last where it isn't among them
abbrev pub with_node : List Node → Node → List Node
with_node nodes x = cond (list_any (same_node x) nodes) nodes (nodes ++ x ∷ [])

-- the number of a node, or the next number where it isn't among these
abbrev pub number_in : List Node → Node → ℕ
number_in nodes x = position_or_len (same_node x) nodes + 1

-- the nodes with this one, and its number
abbrev pub noted : List Node → Node → List Node × ℕ
noted nodes x = (with_node nodes x, number_in nodes x)

abbrev mutual
  -- the nodes with those of a tree, and the number of the tree's own
  pub shared_in : List Node → Tree → List Node × ℕ
  shared_in nodes Goal = noted nodes GoalNode
  shared_in nodes Impossible = noted nodes ImpossibleNode
  shared_in nodes (Do i t) = let next = shared_in nodes t in noted next.0 (DoNode i next.1)
  shared_in nodes (Branch c t u) = let left = shared_in nodes t in let right = shared_in left.0 u in noted right.0 (BranchNode c left.1 right.1)
  shared_in nodes (Cases x k) = let rest = shared_cases nodes k in noted rest.0 (CasesNode x rest.1)

  -- the nodes with those of cases, and the objects with the numbers of their trees
  pub shared_cases : List Node → Chain → List Node × List (ℕ × ℕ)
  shared_cases nodes End = (nodes, [])
  shared_cases nodes (More e t k) = let one = shared_in nodes t in let rest = shared_cases one.0 k in (rest.0, (e, one.1) ∷ rest.1)
