use Rattle.std.proofs.Common.{rules, ◌≡◌, subst, sym}
use Rattle.pks_pmap.specs.Entries.{IsAscending}
use Rattle.pks_pmap.proofs.Order.{ascending_inner_left, regroup}
use Rattle.pks_pmap.proofs.tree.TreeNode.rotate_left.Goals as goal

pub make_before-requires-clause-ascending : goal.make_before-requires-clause-ascending
make_before-requires-clause-ascending g c =
    let n = c.args.self.now in
    ascending_inner_left g.K.Ord.cmp c.args.left.0 c.args.pair.value n.left.0 n.pair.value n.right.0 c.requires.ascending

pub make_around-requires-clause-ascending : goal.make_around-requires-clause-ascending
make_around-requires-clause-ascending g c =
    let n = c.args.self.now in
    let s : n.right ≡ c.in_ok-outer.outer = search rules in
    rw (c.in_ok-inner.ensures.made, ← s) (subst (IsAscending g.K.Ord.cmp) (sym (regroup g.K.Ord.cmp c.args.left.0 c.args.pair.value n.left.0 n.pair.value n.right.0)) c.requires.ascending)
