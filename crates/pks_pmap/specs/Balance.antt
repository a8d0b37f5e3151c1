-- What a tree is seen as, and what holds of each of its nodes.
use Rattle.std.specs.Prelude.{ℕ, List, [], ◌∷◌, ◌++◌}
use Rattle.std.specs.declared.cmp.Ordering.{Ordering}
use Rattle.pks_pmap.specs.declared.tree.TreeLink.{TreeLink}
use Rattle.pks_pmap.specs.declared.tree.TreeLink.TheVariants.{Leaf, Fork}
use Rattle.pks_pmap.specs.Sides.{IsNode}

-- the entries in order, and the height that the node stores
abbrev pub entries_and_height : {K V : Type 0} → TreeLink K V → List (K × V) × ℕ
entries_and_height Leaf = ([], 0)
entries_and_height (Fork rc) = (rc.value.left.0 ++ rc.value.pair.value ∷ rc.value.right.0, rc.value.height)

-- each node is one of its two sides
abbrev pub IsBalanced : {K V : Type 0} → (K → K → Ordering) → TreeLink K V → Type 0
IsBalanced R Leaf = Unit {0}
IsBalanced R (Fork rc) = IsNode R rc.value.left rc.value.pair.value rc.value.right rc.value.height rc.value.len
