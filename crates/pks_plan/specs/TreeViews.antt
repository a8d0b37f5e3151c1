-- What the program's trees say, apart from how they lie in memory.
use Rattle.pks_terms.specs.Trees.{Tree, Goal, Impossible, Do, Branch, Cases, Chain, End, More}
use Rattle.pks_terms.specs.Views.{term_of, conj_of, instance_of}
use Rattle.pks_plan.specs.declared.trees.Tree as tree
use Rattle.pks_plan.specs.declared.trees.CaseChain as chain

-- a tree, and the chain of its cases
abbrev mutual
  pub tree_of : tree.Tree → Tree
  tree_of tree.Goal = Goal
  tree_of tree.Impossible = Impossible
  tree_of (tree.Act' i p t) = Do (instance_of i) (tree_of t)
  tree_of (tree.Branch' c p t q u) = Branch (conj_of c) (tree_of t) (tree_of u)
  tree_of (tree.Cases' x p k) = Cases (term_of x) (chain_of k)

  -- the cases that a chain lists
  pub chain_of : chain.CaseChain → Chain
  chain_of chain.Empty = End
  chain_of (chain.More' e t p k) = More e.0 (tree_of t) (chain_of k)
