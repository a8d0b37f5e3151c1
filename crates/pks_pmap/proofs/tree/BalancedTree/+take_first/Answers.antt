use Rattle.std.proofs.Common.{rules, ◌≡◌, length}
use Rattle.pks_pmap.specs.Sides.{IsFull}
use Rattle.pks_pmap.proofs.AtFork.{at_fork}
use Rattle.pks_pmap.proofs.Below.{take_here}
use Rattle.pks_pmap.proofs.tree.BalancedTree.+take_first.Goals as goal

pub returns-then-len-eq0-clause-first : goal.returns-then-len-eq0-clause-first
returns-then-len-eq0-clause-first g t c =
    let f = at_fork {R = g.K.Ord.cmp} c.self.view_is c.self.invariant c.in-Fork.is in
    let n = c.in-Fork.node.value in
    let empty : length n.left.0 ≡ 0 = search rules in
    let full : IsFull n.left.1 (length n.left.0) = search rules in
    let m : n.pair.value ≡ c.in_ok-middle.middle.value = search rules in
    let r : n.right ≡ c.in_ok-right.right = search rules in
    rw (← m, ← r) (take_here g.K.Ord.cmp g.met.K.Ord.total f empty full)
