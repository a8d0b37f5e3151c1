-- What is hashed of a node.
use Rattle.std.specs.Prelude.{ℕ, List, [], ◌∷◌, ◌++◌}
use Rattle.std.specs.List.{flat_map}
use Rattle.std.specs.Hash.{HashWrites, u8, u16, u64}
use Rattle.pks_terms.specs.Syntax.{Inner, Term, Literal}
use Rattle.pks_terms.specs.Orders.{number_of}
use Rattle.pks_terms.specs.Nodes.{Node, GoalNode, ImpossibleNode, DoNode, BranchNode, CasesNode}

-- the numbers of arguments
abbrev pub inners_written : List Inner → HashWrites
inners_written ts = flat_map (λ t. u16 (number_of t)) ts

-- the numbers of terms
abbrev pub terms_written : List Term → HashWrites
terms_written ts = flat_map (λ t. u16 (number_of t)) ts

-- the arguments of literals
abbrev pub literals_written : List Literal → HashWrites
literals_written c = flat_map (λ l. terms_written l.arguments) c

-- objects, and the numbers of their nodes
abbrev pub links_written : List (ℕ × ℕ) → HashWrites
links_written cases = flat_map (λ (one : ℕ × ℕ). u16 one.0 ++ u64 one.1) cases

-- what tells most nodes apart: what they are about, and the numbers of their children
abbrev pub node_written : Node → HashWrites
node_written GoalNode = u8 0
node_written ImpossibleNode = u8 1
node_written (DoNode i next) = u8 i.action ++ (inners_written i.arguments ++ u64 next)
node_written (BranchNode c m n) = literals_written c ++ (u64 m ++ u64 n)
node_written (CasesNode x cases) = terms_written (x ∷ []) ++ links_written cases
