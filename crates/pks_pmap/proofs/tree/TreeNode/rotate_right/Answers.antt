use Rattle.std.proofs.Common.{rules, ◌≡◌, subst}
use Rattle.pks_pmap.specs.Entries.{IsAscending}
use Rattle.pks_pmap.proofs.Order.{ascending_inner_right, regroup}
use Rattle.pks_pmap.proofs.tree.TreeNode.rotate_right.Goals as goal

pub make_after-requires-clause-ascending : goal.make_after-requires-clause-ascending
make_after-requires-clause-ascending g c =
    let n = c.args.self.now in
    ascending_inner_right g.K.Ord.cmp n.left.0 n.pair.value n.right.0 c.args.pair.value c.args.right.0 c.requires.ascending

pub make_around-requires-clause-ascending : goal.make_around-requires-clause-ascending
make_around-requires-clause-ascending g c =
    let n = c.args.self.now in
    let s : n.left ≡ c.in_ok-outer.outer = search rules in
    rw (c.in_ok-inner.ensures.made, ← s) (subst (IsAscending g.K.Ord.cmp) (regroup g.K.Ord.cmp n.left.0 n.pair.value n.right.0 c.args.pair.value c.args.right.0) c.requires.ascending)
