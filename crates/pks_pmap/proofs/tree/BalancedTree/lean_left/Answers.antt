use Rattle.std.proofs.Common.{rules, ◌≡◌, ◌∷◌, ◌++◌, subst}
use Rattle.pks_pmap.specs.Entries.{IsAscending}
use Rattle.pks_pmap.proofs.AtFork.{at_fork}
use Rattle.pks_pmap.proofs.tree.BalancedTree.lean_left.Goals as goal

pub rotate_right-requires-clause-ascending : goal.rotate_right-requires-clause-ascending
rotate_right-requires-clause-ascending g c =
    let f = at_fork {R = g.K.Ord.cmp} c.left.view_is c.left.invariant c.in-Fork.is in
    let n = c.in-Fork.top.value in
    let d : n ≡ c.deref-then-height.result.now = search rules in
    subst (λ m. IsAscending g.K.Ord.cmp ((m.left.0 ++ m.pair.value ∷ m.right.0) ++ c.args.pair.value ∷ c.args.right.0)) d (subst (λ l. IsAscending g.K.Ord.cmp (l ++ c.args.pair.value ∷ c.args.right.0)) f.entries c.requires.ascending)

pub rotate_left_right-requires-clause-ascending : goal.rotate_left_right-requires-clause-ascending
rotate_left_right-requires-clause-ascending g c =
    let f = at_fork {R = g.K.Ord.cmp} c.left.view_is c.left.invariant c.in-Fork.is in
    let n = c.in-Fork.top.value in
    let d : n ≡ c.deref-3.result.now = search rules in
    subst (λ m. IsAscending g.K.Ord.cmp ((m.left.0 ++ m.pair.value ∷ m.right.0) ++ c.args.pair.value ∷ c.args.right.0)) d (subst (λ l. IsAscending g.K.Ord.cmp (l ++ c.args.pair.value ∷ c.args.right.0)) f.entries c.requires.ascending)
