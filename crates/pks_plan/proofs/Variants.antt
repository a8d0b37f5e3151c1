-- A tree whose root is of a kind is of that variant.
use Rattle.std.proofs.Common.{◌≡◌, Box, Global, refl}
use Rattle.pks_terms.specs.declared.schema.Instance.{Instance}
use Rattle.pks_terms.specs.declared.literal.Conj.{Conj}
use Rattle.pks_terms.specs.declared.term.Term.{Term}
use Rattle.pks_terms.specs.Trees.{root_kind}
use Rattle.pks_plan.specs.declared.trees.Tree as tree
use Rattle.pks_plan.specs.declared.trees.Tree.TheVariants as tree_is
use Rattle.pks_plan.specs.declared.trees.CaseChain as chain
use Rattle.pks_plan.specs.TreeViews.{tree_of}

pub only_act : (u : tree.Tree) → 2 ≡ root_kind (tree_of u) → ((i : Instance) (x : Box tree.Tree Global) → u ≡ tree_is.Act i x → ⊥) → ⊥
only_act (tree.Act' i p t) k other = other i (record { ptr = p.ptr; alloc = p.alloc; value = t }) refl
only_act tree.Goal k other = cc
only_act tree.Impossible k other = cc
only_act (tree.Branch' c p t q u) k other = cc
only_act (tree.Cases' x p m) k other = cc

pub only_branch : (u : tree.Tree) → 3 ≡ root_kind (tree_of u) → ((c : Conj) (x y : Box tree.Tree Global) → u ≡ tree_is.Branch c x y → ⊥) → ⊥
only_branch (tree.Branch' c p t q u) k other = other c (record { ptr = p.ptr; alloc = p.alloc; value = t }) (record { ptr = q.ptr; alloc = q.alloc; value = u }) refl
only_branch tree.Goal k other = cc
only_branch tree.Impossible k other = cc
only_branch (tree.Act' i p t) k other = cc
only_branch (tree.Cases' x p m) k other = cc

pub only_cases : (u : tree.Tree) → 4 ≡ root_kind (tree_of u) → ((x : Term) (m : Box chain.CaseChain Global) → u ≡ tree_is.Cases x m → ⊥) → ⊥
only_cases (tree.Cases' x p m) k other = other x (record { ptr = p.ptr; alloc = p.alloc; value = m }) refl
only_cases tree.Goal k other = cc
only_cases tree.Impossible k other = cc
only_cases (tree.Act' i p t) k other = cc
only_cases (tree.Branch' c p t q u) k other = cc
