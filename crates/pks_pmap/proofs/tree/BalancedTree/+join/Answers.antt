use Rattle.std.proofs.Common.{rules, ◌≡◌, ◌∷◌, ◌++◌, ◌+◌, ◌<◌, length, subst, sym, ap, arith}
use Rattle.pks_pmap.specs.Entries.{IsAscending}
use Rattle.pks_pmap.proofs.AtFork.{at_fork}
use Rattle.pks_pmap.proofs.Order.{ascending_inner_left, ascending_inner_right, regroup}
use Rattle.pks_pmap.proofs.Kept.{sides_shorter}
use Rattle.pks_pmap.proofs.tree.BalancedTree.+join.Goals as goal

pub join-requires : goal.join-requires
join-requires g t c κs within =
    let f = at_fork {R = g.K.Ord.cmp} c.left.view_is c.left.invariant c.in-Fork.is in
    let n = c.in-Fork.top.value in
    let a = subst (λ l. IsAscending g.K.Ord.cmp (l ++ c.args.pair.value ∷ c.args.right.0)) f.entries c.requires in
    let s : n.right ≡ c.in_ok-inner.inner = search rules in
    let less : length c.in_ok-inner.inner.0 + length c.args.right.0 < t = omega (arith, sides_shorter f, ap (λ z. length z.0) s, c.decreases) in
    (less, (within.0, (within.1, subst (λ u. IsAscending g.K.Ord.cmp (u.0 ++ c.args.pair.value ∷ c.args.right.0)) s (ascending_inner_right g.K.Ord.cmp n.left.0 n.pair.value n.right.0 c.args.pair.value c.args.right.0 a))))

pub join-requires-then-saturating_sub-gt2-2 : goal.join-requires-then-saturating_sub-gt2-2
join-requires-then-saturating_sub-gt2-2 g t c κs within =
    let f = at_fork {R = g.K.Ord.cmp} c.right.view_is c.right.invariant c.in-Fork-link.is in
    let n = c.in-Fork-link.top.value in
    let a = subst (λ l. IsAscending g.K.Ord.cmp (c.args.left.0 ++ c.args.pair.value ∷ l)) f.entries c.requires in
    let s : n.left ≡ c.in_ok-inner-3.inner = search rules in
    let less : length c.args.left.0 + length c.in_ok-inner-3.inner.0 < t = omega (arith, sides_shorter f, ap (λ z. length z.0) s, c.decreases) in
    (less, (within.0, (within.1, subst (λ u. IsAscending g.K.Ord.cmp (c.args.left.0 ++ c.args.pair.value ∷ u.0)) s (ascending_inner_left g.K.Ord.cmp c.args.left.0 c.args.pair.value n.left.0 n.pair.value n.right.0 a))))

pub balance_with_left-requires-clause-ascending : goal.balance_with_left-requires-clause-ascending
balance_with_left-requires-clause-ascending g t c =
    let f = at_fork {R = g.K.Ord.cmp} c.right.view_is c.right.invariant c.in-Fork-link.is in
    let n = c.in-Fork-link.top.value in
    let a = subst (λ l. IsAscending g.K.Ord.cmp (c.args.left.0 ++ c.args.pair.value ∷ l)) f.entries c.requires in
    let s : n.left ≡ c.in_ok-inner-3.inner = search rules in
    let u : c.in_ok-inner-4.inner.0 ≡ c.args.left.0 ++ c.args.pair.value ∷ c.in_ok-inner-3.inner.0 = search rules in
    let e : c.deref-then-saturating_sub-gt2-2-2.result.now ≡ n = search rules in
    rw (e, u, ← s) (subst (IsAscending g.K.Ord.cmp) (sym (regroup g.K.Ord.cmp c.args.left.0 c.args.pair.value n.left.0 n.pair.value n.right.0)) a)

pub balance_with_right-requires-clause-ascending : goal.balance_with_right-requires-clause-ascending
balance_with_right-requires-clause-ascending g t c =
    let f = at_fork {R = g.K.Ord.cmp} c.left.view_is c.left.invariant c.in-Fork.is in
    let n = c.in-Fork.top.value in
    let a = subst (λ l. IsAscending g.K.Ord.cmp (l ++ c.args.pair.value ∷ c.args.right.0)) f.entries c.requires in
    let s : n.right ≡ c.in_ok-inner.inner = search rules in
    let u : c.in_ok-inner-2.inner.0 ≡ c.in_ok-inner.inner.0 ++ c.args.pair.value ∷ c.args.right.0 = search rules in
    let e : c.deref-then-saturating_sub-gt2.result.now ≡ n = search rules in
    rw (e, u, ← s) (subst (IsAscending g.K.Ord.cmp) (regroup g.K.Ord.cmp n.left.0 n.pair.value n.right.0 c.args.pair.value c.args.right.0) a)
