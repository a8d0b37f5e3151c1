-- What is known of a tree's value d once its link is a fork.
use Rattle.std.proofs.Common.{◌≡◌, ℕ, List, ◌∷◌, ◌++◌, sym, ap, ◌∙◌, subst, Ordering}
use Rattle.std.specs.declared.alloc.Global.{Global}
use Rattle.std.specs.declared.rc.Rc.{Rc}
use Rattle.pks_pmap.specs.Sides.{IsNode}
use Rattle.pks_pmap.specs.Balance.{entries_and_height, IsBalanced}
use Rattle.pks_pmap.specs.declared.tree.TreeLink.{TreeLink}
use Rattle.pks_pmap.specs.declared.tree.TreeNode.{TreeNode}
use Rattle.pks_pmap.specs.declared.tree.TreeLink.TheVariants.{Fork}

pub record AtFork {K V : Type 0} (R : K → K → Ordering) (d : List (K × V) × ℕ) (n : TreeNode K V) : Type 0 where
  pub entries : d.0 ≡ n.left.0 ++ n.pair.value ∷ n.right.0
  pub height : d.1 ≡ n.height
  pub node : IsNode R n.left n.pair.value n.right n.height n.len

pub at_fork : {K V : Type 0} {R : K → K → Ordering} {link : TreeLink K V} {d : List (K × V) × ℕ} {rc : Rc (TreeNode K V) Global} → entries_and_height link ≡ d → IsBalanced R link → link ≡ Fork rc → AtFork R d rc.value
at_fork {K} {V} {R} {link} {d} {rc} view_is balanced is =
    let e = sym view_is ∙ ap entries_and_height is in
    record { entries = ap (λ p. p.0) e; height = ap (λ p. p.1) e; node = subst (IsBalanced R) is balanced }
