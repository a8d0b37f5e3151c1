use Rattle.std.proofs.Common.{rules, ◌≡◌, ◌+◌, max, ◌∷◌, ◌++◌, length, arith, length-append}
use Rattle.pks_pmap.specs.Sides.{IsFull}
use Rattle.pks_pmap.proofs.Heights.{full_node}
use Rattle.pks_pmap.proofs.tree.BalancedTree.make.Goals as goal

pub invariant_of-result : goal.invariant_of-result
invariant_of-result g c =
    let full : IsFull (max c.args.left.1 c.args.right.1 + 1) (length (c.args.left.0 ++ c.args.pair.value ∷ c.args.right.0)) = full_node _ _ _ _ _ c.height.ensures.full c.height-2.ensures.full c.requires.balanced in
    let height : c.max-height.result + 1 ≡ max c.args.left.1 c.args.right.1 + 1 = search rules in
    let sum : c.in-Some.len ≡ length c.args.left.0 + length c.args.right.0 + 1 = search rules in
    let len : c.in-Some.len ≡ length (c.args.left.0 ++ c.args.pair.value ∷ c.args.right.0) = omega (arith, sum, length-append c.args.left.0 (c.args.pair.value ∷ c.args.right.0)) in
    let fits : IsFull (c.max-height.result + 1) c.in-Some.len = rw (height, len) full in
    rw c.in_ok-node.ensures.ok (record { ascending = c.requires.ascending; is_height = height; balanced = c.requires.balanced; is_len = len; full = fits })
