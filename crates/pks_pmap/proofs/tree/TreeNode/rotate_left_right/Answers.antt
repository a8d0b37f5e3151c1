use Rattle.std.proofs.Common.{◌≡◌, ◌∷◌, ◌++◌, subst}
use Rattle.pks_pmap.specs.Entries.{IsAscending}
use Rattle.pks_pmap.proofs.Order.{ascending_front, ascending_inner_left, ascending_inner_right, regroup_left}
use Rattle.pks_pmap.proofs.AtFork.{at_fork}
use Rattle.pks_pmap.proofs.tree.TreeNode.rotate_left_right.Goals as goal

pub make_with_right-requires-clause-ascending : goal.make_with_right-requires-clause-ascending
make_with_right-requires-clause-ascending g c =
    let n = c.args.self.now in
    let h = at_fork {R = g.K.Ord.cmp} c.high.view_is c.high.invariant c.in-Fork.is in
    let m = c.in-Fork.middle.value in
    let d : n.right.0 ≡ m.left.0 ++ m.pair.value ∷ m.right.0 = h.entries in
    let a = ascending_front g.K.Ord.cmp (n.left.0 ++ n.pair.value ∷ n.right.0) (c.args.pair.value ∷ c.args.right.0) c.requires.ascending in
    let b = subst (λ l. IsAscending g.K.Ord.cmp (n.left.0 ++ n.pair.value ∷ l)) d a in
    rw c.deref.ensures (ascending_inner_left g.K.Ord.cmp n.left.0 n.pair.value m.left.0 m.pair.value m.right.0 b)

pub make_after-requires-clause-ascending : goal.make_after-requires-clause-ascending
make_after-requires-clause-ascending g c =
    let n = c.args.self.now in
    let h = at_fork {R = g.K.Ord.cmp} c.high.view_is c.high.invariant c.in-Fork.is in
    let m = c.in-Fork.middle.value in
    let d : n.right.0 ≡ m.left.0 ++ m.pair.value ∷ m.right.0 = h.entries in
    let a = ascending_inner_right g.K.Ord.cmp n.left.0 n.pair.value n.right.0 c.args.pair.value c.args.right.0 c.requires.ascending in
    let b = subst (λ l. IsAscending g.K.Ord.cmp (l ++ c.args.pair.value ∷ c.args.right.0)) d a in
    rw c.deref-2.ensures (ascending_inner_right g.K.Ord.cmp m.left.0 m.pair.value m.right.0 c.args.pair.value c.args.right.0 b)

pub make_around-requires-clause-ascending : goal.make_around-requires-clause-ascending
make_around-requires-clause-ascending g c =
    let n = c.args.self.now in
    let h = at_fork {R = g.K.Ord.cmp} c.high.view_is c.high.invariant c.in-Fork.is in
    let m = c.in-Fork.middle.value in
    let d : n.right.0 ≡ m.left.0 ++ m.pair.value ∷ m.right.0 = h.entries in
    let a = subst (λ l. IsAscending g.K.Ord.cmp ((n.left.0 ++ n.pair.value ∷ l) ++ c.args.pair.value ∷ c.args.right.0)) d c.requires.ascending in
    rw (c.in_ok-before.ensures.made, c.in_ok-after.ensures.made, c.deref.ensures, c.deref-2.ensures, c.deref-3.ensures) (subst (IsAscending g.K.Ord.cmp) (regroup_left g.K.Ord.cmp n.left.0 n.pair.value m.left.0 m.pair.value m.right.0 c.args.pair.value c.args.right.0) a)
