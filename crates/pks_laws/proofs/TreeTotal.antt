-- The order of trees is total: it is the order of their roots, listed a root before its children.
use Rattle.std.proofs.Common.{◌≡◌, ℕ, List, [], ◌∷◌, Equal, Less, Greater, Ordering, refl, sym, ap, ◌∙◌, subst}
use Rattle.std.specs.Ordering.{ordering_then, on}
use Rattle.std.specs.Cmp.{IsTotalOrder}
use Rattle.std.specs.Cmp.Lexicographic.{slice_cmp}
use Rattle.std.proofs.lemmas.Cmp.{on_total, lists_total}
use Rattle.pks_terms.specs.Trees.{Tree, Goal, Impossible, Do, Branch, Cases, Chain, End, More, objects_in, root_kind, root_cases, root_cmp, first_child, second_child, head_tree, rest_of, tree_cmp, chain_cmp}
use Rattle.pks_laws.proofs.TreeOrder.{root_cmp_total, same_root, end_is, rest_objects}

then_assoc : (a b c : Ordering) → ordering_then (ordering_then a b) c ≡ ordering_then a (ordering_then b c)
then_assoc Less b c = refl
then_assoc Equal b c = refl
then_assoc Greater b c = refl

abbrev mutual
  -- the roots below a tree's own, before others
  pub below : Tree → List Tree → List Tree
  below Goal xs = xs
  below Impossible xs = xs
  below (Do i t) xs = t ∷ below t xs
  below (Branch c t u) xs = t ∷ below t (u ∷ below u xs)
  below (Cases x k) xs = chain_roots k xs

  pub chain_roots : Chain → List Tree → List Tree
  chain_roots End xs = xs
  chain_roots (More e t k) xs = t ∷ below t (chain_roots k xs)

abbrev pub roots : Tree → List Tree
roots t = t ∷ below t []

then_same : (o a b : Ordering) → (o ≡ Equal → a ≡ b) → ordering_then o a ≡ ordering_then o b
then_same Less a b f = refl
then_same Equal a b f = f refl
then_same Greater a b f = refl

pub then_nothing : (o : Ordering) → ordering_then o Equal ≡ o
then_nothing Less = refl
then_nothing Equal = refl
then_nothing Greater = refl

below_leaf : (u : Tree) (ys : List Tree) → 0 ≡ root_kind u → below u ys ≡ ys
below_leaf Goal ys k = refl
below_leaf Impossible ys k = cc
below_leaf (Do i t) ys k = cc
below_leaf (Branch c t u) ys k = cc
below_leaf (Cases x m) ys k = cc

below_no : (u : Tree) (ys : List Tree) → 1 ≡ root_kind u → below u ys ≡ ys
below_no Impossible ys k = refl
below_no Goal ys k = cc
below_no (Do i t) ys k = cc
below_no (Branch c t u) ys k = cc
below_no (Cases x m) ys k = cc

below_do : (u : Tree) (ys : List Tree) → 2 ≡ root_kind u → below u ys ≡ first_child u ∷ below (first_child u) ys
below_do (Do i t) ys k = refl
below_do Goal ys k = cc
below_do Impossible ys k = cc
below_do (Branch c t u) ys k = cc
below_do (Cases x m) ys k = cc

below_branch : (u : Tree) (ys : List Tree) → 3 ≡ root_kind u → below u ys ≡ first_child u ∷ below (first_child u) (second_child u ∷ below (second_child u) ys)
below_branch (Branch c t u) ys k = refl
below_branch Goal ys k = cc
below_branch Impossible ys k = cc
below_branch (Do i t) ys k = cc
below_branch (Cases x m) ys k = cc

below_cases : (u : Tree) (ys : List Tree) → 4 ≡ root_kind u → below u ys ≡ chain_roots (root_cases u) ys
below_cases (Cases x m) ys k = refl
below_cases Goal ys k = cc
below_cases Impossible ys k = cc
below_cases (Do i t) ys k = cc
below_cases (Branch c t u) ys k = cc

chain_more : (d : ℕ) (ds : List ℕ) (m : Chain) (ys : List Tree) → d ∷ ds ≡ objects_in m → chain_roots m ys ≡ head_tree m ∷ below (head_tree m) (chain_roots (rest_of m) ys)
chain_more d ds (More e t k) ys o = refl
chain_more d ds End ys o = cc

module _ (size : Tree → ℕ) where
  abbrev pub by_roots : List Tree → List Tree → Ordering
  by_roots = slice_cmp (root_cmp size)

  mutual
    pub tree_by_roots : (t u : Tree) (xs ys : List Tree) → by_roots (t ∷ below t xs) (u ∷ below u ys) ≡ ordering_then (tree_cmp size t u) (by_roots xs ys)
    tree_by_roots Goal u xs ys = then_same (root_cmp size Goal u) _ _ (λ e i. by_roots xs (below_leaf u ys (same_root size Goal u e).kind i))
    tree_by_roots Impossible u xs ys = then_same (root_cmp size Impossible u) _ _ (λ e i. by_roots xs (below_no u ys (same_root size Impossible u e).kind i))
    tree_by_roots (Do s t) u xs ys =
        then_same (root_cmp size (Do s t) u) (by_roots (t ∷ below t xs) (below u ys)) (ordering_then (tree_cmp size t (first_child u)) (by_roots xs ys))
        (λ e. ap (by_roots (t ∷ below t xs)) (below_do u ys (same_root size (Do s t) u e).kind) ∙ tree_by_roots t (first_child u) xs ys)
        ∙ sym (then_assoc (root_cmp size (Do s t) u) (tree_cmp size t (first_child u)) (by_roots xs ys))
    tree_by_roots (Branch c t t') u xs ys =
        let a : Ordering = tree_cmp size t (first_child u) in
        let b : Ordering = tree_cmp size t' (second_child u) in
        then_same (root_cmp size (Branch c t t') u) (by_roots (t ∷ below t (t' ∷ below t' xs)) (below u ys)) (ordering_then (ordering_then a b) (by_roots xs ys))
        (λ e. ap (by_roots (t ∷ below t (t' ∷ below t' xs))) (below_branch u ys (same_root size (Branch c t t') u e).kind)
        ∙ tree_by_roots t (first_child u) (t' ∷ below t' xs) (second_child u ∷ below (second_child u) ys)
        ∙ ap (ordering_then a) (tree_by_roots t' (second_child u) xs ys)
        ∙ sym (then_assoc a b (by_roots xs ys)))
        ∙ sym (then_assoc (root_cmp size (Branch c t t') u) (ordering_then a b) (by_roots xs ys))
    tree_by_roots (Cases x k) u xs ys =
        then_same (root_cmp size (Cases x k) u) (by_roots (chain_roots k xs) (below u ys)) (ordering_then (chain_cmp size k (root_cases u)) (by_roots xs ys))
        (λ e. ap (by_roots (chain_roots k xs)) (below_cases u ys (same_root size (Cases x k) u e).kind) ∙ chain_by_roots k (root_cases u) xs ys (same_root size (Cases x k) u e).objects)
        ∙ sym (then_assoc (root_cmp size (Cases x k) u) (chain_cmp size k (root_cases u)) (by_roots xs ys))

    pub chain_by_roots : (k m : Chain) (xs ys : List Tree) → objects_in k ≡ objects_in m → by_roots (chain_roots k xs) (chain_roots m ys) ≡ ordering_then (chain_cmp size k m) (by_roots xs ys)
    chain_by_roots End m xs ys o = λ i. by_roots xs (chain_roots (sym (end_is m o) i) ys)
    chain_by_roots (More d t k) m xs ys o =
        let a : Ordering = tree_cmp size t (head_tree m) in
        let b : Ordering = chain_cmp size k (rest_of m) in
        ap (by_roots (t ∷ below t (chain_roots k xs))) (chain_more d (objects_in k) m ys o)
        ∙ tree_by_roots t (head_tree m) (chain_roots k xs) (chain_roots (rest_of m) ys)
        ∙ ap (ordering_then a) (chain_by_roots k (rest_of m) xs ys (rest_objects d t k m o))
        ∙ sym (then_assoc a b (by_roots xs ys))

  tree_is_roots : on roots by_roots ≡ tree_cmp size
  tree_is_roots = λ i t u. (tree_by_roots t u [] [] ∙ then_nothing (tree_cmp size t u)) i

  pub tree_cmp_total : IsTotalOrder (tree_cmp size)
  tree_cmp_total = subst IsTotalOrder tree_is_roots (on_total roots (lists_total (root_cmp_total size)))
