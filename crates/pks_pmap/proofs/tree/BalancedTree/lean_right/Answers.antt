use Rattle.std.proofs.Common.{rules, ◌≡◌, ◌∷◌, ◌++◌, subst}
use Rattle.pks_pmap.specs.Entries.{IsAscending}
use Rattle.pks_pmap.proofs.AtFork.{at_fork}
use Rattle.pks_pmap.proofs.tree.BalancedTree.lean_right.Goals as goal

pub rotate_left-requires-clause-ascending : goal.rotate_left-requires-clause-ascending
rotate_left-requires-clause-ascending g c =
    let f = at_fork {R = g.K.Ord.cmp} c.right.view_is c.right.invariant c.in-Fork.is in
    let n = c.in-Fork.top.value in
    let d : n ≡ c.deref-then-height.result.now = search rules in
    subst (λ m. IsAscending g.K.Ord.cmp (c.args.left.0 ++ c.args.pair.value ∷ (m.left.0 ++ m.pair.value ∷ m.right.0))) d (subst (λ l. IsAscending g.K.Ord.cmp (c.args.left.0 ++ c.args.pair.value ∷ l)) f.entries c.requires.ascending)

pub rotate_right_left-requires-clause-ascending : goal.rotate_right_left-requires-clause-ascending
rotate_right_left-requires-clause-ascending g c =
    let f = at_fork {R = g.K.Ord.cmp} c.right.view_is c.right.invariant c.in-Fork.is in
    let n = c.in-Fork.top.value in
    let d : n ≡ c.deref-3.result.now = search rules in
    subst (λ m. IsAscending g.K.Ord.cmp (c.args.left.0 ++ c.args.pair.value ∷ (m.left.0 ++ m.pair.value ∷ m.right.0))) d (subst (λ l. IsAscending g.K.Ord.cmp (c.args.left.0 ++ c.args.pair.value ∷ l)) f.entries c.requires.ascending)
