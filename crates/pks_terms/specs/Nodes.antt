-- A tree whose equal subtrees stand once, as a list of nodes.
use Rattle.std.specs.Prelude.{ℕ, zero, suc, ◌+◌, ◌≡◌, ◌≤◌, ◌<◌, Bool, max, List, [], ◌∷◌, ◌++◌, map, length, Option, Some, None, codes, decimal, unwrap_or, slice_get}
use Rattle.std.specs.List.{flat_map}
use Rattle.std.specs.Ordering.{is_eq}
use Rattle.pks_terms.specs.Sets.{Each, IsIn, first_of_each}
use Rattle.pks_terms.specs.Syntax.{Term, Literal}
use Rattle.pks_terms.specs.Actions.{Instance}
use Rattle.pks_terms.specs.Branching.{numbered}
use Rattle.pks_terms.specs.Trees.{Tree, Goal, Impossible, Do, Branch, Cases, Chain, End, More, depth, tree_cmp}
use Rattle.pks_terms.specs.Printed.{Text, Names, name_in, line, conj_text, term_text, instance_text}

-- a leaf, or an action, a branch or cases with the numbers of the children's nodes, which count from 1
pub data Node : Type 0 where
  GoalNode : Node
  ImpossibleNode : Node
  DoNode : (step : Instance) → (next : ℕ) → Node
  BranchNode : (test : List Literal) → (yes no : ℕ) → Node
  CasesNode : (term : Term) → (cases : List (ℕ × ℕ)) → Node

-- what stands at a number of a list that counts from 1
abbrev pub at_number : {X : Type 0} → List X → ℕ → Option X
at_number xs zero = None
at_number xs (suc n) = slice_get xs n

-- ---- unfolding

-- the node with this number unfolds to the tree
abbrev mutual
  pub Unfolds : List Node → ℕ → Tree → Type 0
  Unfolds nodes n Goal = at_number nodes n ≡ Some GoalNode
  Unfolds nodes n Impossible = at_number nodes n ≡ Some ImpossibleNode
  Unfolds nodes n (Do i t) = (next : ℕ) × (at_number nodes n ≡ Some (DoNode i next)) × Unfolds nodes next t
  Unfolds nodes n (Branch c t u) = (k m : ℕ) × (at_number nodes n ≡ Some (BranchNode c k m)) × Unfolds nodes k t × Unfolds nodes m u
  Unfolds nodes n (Cases x k) = (cases : List (ℕ × ℕ)) × (at_number nodes n ≡ Some (CasesNode x cases)) × UnfoldEach nodes cases k

  -- the nodes of the cases unfold to their trees, in order
  pub UnfoldEach : List Node → List (ℕ × ℕ) → Chain → Type 0
  UnfoldEach nodes cases End = cases ≡ []
  UnfoldEach nodes cases (More e t k) =
      (n : ℕ) × (rest : List (ℕ × ℕ)) × (cases ≡ (e, n) ∷ rest) × Unfolds nodes n t × UnfoldEach nodes rest k

-- the nodes from this number on unfold to these trees, one by one
abbrev pub UnfoldTo : List Node → ℕ → List Node → List Tree → Type 0
UnfoldTo nodes n [] [] = Unit {0}
UnfoldTo nodes n (x ∷ xs) (t ∷ ts) = Unfolds nodes n t × UnfoldTo nodes (n + 1) xs ts
UnfoldTo nodes n xs ts = ⊥

-- ---- the order

-- the trees are equal
abbrev pub same_tree : Tree → Tree → Bool
same_tree t u = is_eq (tree_cmp depth t u)

-- the subtrees in the order in which a walk ends them, children from left to right before their parent
abbrev mutual
  pub walk_of : Tree → List Tree
  walk_of Goal = Goal ∷ []
  walk_of Impossible = Impossible ∷ []
  walk_of (Do i t) = walk_of t ++ Do i t ∷ []
  walk_of (Branch c t u) = walk_of t ++ (walk_of u ++ Branch c t u ∷ [])
  walk_of (Cases x k) = walk_in k ++ Cases x k ∷ []

  -- so of the cases, in order
  pub walk_in : Chain → List Tree
  walk_in End = []
  walk_in (More e t k) = walk_of t ++ walk_in k

-- each subtree once, where the walk first ends it
unfoldable pub first_ends : Tree → List Tree
first_ends t = first_of_each same_tree [] (walk_of t)

-- no two are equal
abbrev pub NoTwoEqual : {X : Type 0} → List X → Type 0
NoTwoEqual [] = Unit {0}
NoTwoEqual (x ∷ xs) = (IsIn x xs → ⊥) × NoTwoEqual xs

-- the one list of nodes of a tree: the nodes unfold to the subtrees in this order, no two are equal, and the last unfolds to the tree
pub record IsShared (t : Tree) (nodes : List Node) : Type 0 where
  pub distinct : NoTwoEqual nodes
  pub order : UnfoldTo nodes 1 nodes (first_ends t)
  pub whole : Unfolds nodes (length nodes) t

-- ---- what is printed

-- the numbers of a node's children
abbrev pub children_of : Node → List ℕ
children_of GoalNode = []
children_of ImpossibleNode = []
children_of (DoNode i next) = next ∷ []
children_of (BranchNode c m n) = m ∷ n ∷ []
children_of (CasesNode x cases) = map (λ (one : ℕ × ℕ). one.1) cases

-- each child has a smaller number than its parent, the nodes having numbers from n on
abbrev pub AreBehindChildren : ℕ → List Node → Type 0
AreBehindChildren n [] = Unit {0}
AreBehindChildren n (x ∷ xs) = Each (λ child. (1 ≤ child) × (child < n)) (children_of x) × AreBehindChildren (n + 1) xs

-- the greatest of the depths of these children, by the depths of the nodes before
abbrev pub deepest : List ℕ → List ℕ → ℕ
deepest before [] = 0
deepest before (child ∷ rest) = max (unwrap_or (at_number before child) 0) (deepest before rest)

-- the depth of a node, by the depths of those before it
abbrev pub node_depth : List ℕ → Node → ℕ
node_depth before GoalNode = 0
node_depth before ImpossibleNode = 0
node_depth before (DoNode i next) = deepest before (next ∷ []) + 1
node_depth before (BranchNode c m n) = deepest before (m ∷ n ∷ []) + 1
node_depth before (CasesNode x cases) = deepest before (children_of (CasesNode x cases)) + 1

-- the depth of the last node, these being the depths of those before, and the last of them this one
abbrev pub last_depth : List ℕ → ℕ → List Node → ℕ
last_depth before last [] = last
last_depth before last (x ∷ xs) = last_depth (before ++ node_depth before x ∷ []) (node_depth before x) xs

-- what a node is, and the numbers of its children
abbrev pub node_text : Names → Node → Text
node_text names GoalNode = codes "goal"
node_text names ImpossibleNode = codes "impossible"
node_text names (DoNode i next) = instance_text names i ++ (codes " then " ++ decimal next)
node_text names (BranchNode c m n) = codes "branch " ++ (conj_text names c ++ (codes " true " ++ (decimal m ++ (codes " false " ++ decimal n))))
node_text names (CasesNode x cases) =
    codes "cases " ++ (term_text names x ++ flat_map (λ (one : ℕ × ℕ). 32 ∷ name_in names.objects one.0 ++ 32 ∷ decimal one.1) cases)

-- the depth of the last node and how many there are, and then each node behind its number
unfoldable pub shared_text : Names → List Node → Text
shared_text names nodes =
    line (codes "plan depth " ++ (decimal (last_depth [] 0 nodes) ++ (codes " nodes " ++ decimal (length nodes))))
    ++ flat_map (λ (x : ℕ × Node). line (decimal x.0 ++ 32 ∷ node_text names x.1)) (numbered 1 nodes)
