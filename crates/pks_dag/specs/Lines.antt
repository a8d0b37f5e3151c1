-- The lines of nodes.
use Rattle.std.specs.Prelude.{ℕ, List, ◌∷◌, ◌++◌, decimal}
use Rattle.std.specs.List.{flat_map}
use Rattle.pks_terms.specs.Branching.{numbered}
use Rattle.pks_terms.specs.Nodes.{Node, node_text}
use Rattle.pks_terms.specs.Printed.{Text, Names, name_in, line}

-- objects and the numbers of their nodes
abbrev pub links_text : Names → List (ℕ × ℕ) → Text
links_text names cases = flat_map (λ (one : ℕ × ℕ). 32 ∷ name_in names.objects one.0 ++ 32 ∷ decimal one.1) cases

-- the line of a node
abbrev pub node_line : Names → ℕ × Node → Text
node_line names x = line (decimal x.0 ++ 32 ∷ node_text names x.1)

-- the lines of nodes, the first of which has this number
abbrev pub node_lines : Names → ℕ → List Node → Text
node_lines names n nodes = flat_map (node_line names) (numbered n nodes)
