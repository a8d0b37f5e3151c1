use Rattle.std.proofs.Common.{rules, ◌≡◌, ◌∷◌, ◌+◌, suc, drop, ◌-◌, length, arith}
use Rattle.pks_pmap.proofs.AtFork.{at_fork}
use Rattle.pks_pmap.proofs.Below.{nth_middle, nth_right}
use Rattle.pks_pmap.proofs.tree.BalancedTree.+nth.Goals as goal

pub returns-then-at-before-2 : goal.returns-then-at-before-2
returns-then-at-before-2 g t c =
    let f = at_fork {R = g.K.Ord.cmp} c.self.view_is c.self.invariant c.in-Fork.is in
    let n = c.in-Fork.node.value in
    let a : c.args.at ≡ length n.left.0 = search rules in
    let v : n.pair.value ≡ c.deref-then-at-before-2-2.result.now = search rules in
    rw (f.entries, a, ← v) (nth_middle n.left.0 n.pair.value n.right.0)

pub returns : goal.returns
returns g t c =
    let f = at_fork {R = g.K.Ord.cmp} c.self.view_is c.self.invariant c.in-Fork.is in
    let n = c.in-Fork.node.value in
    let len : c.len-before.result ≡ length n.left.0 = search rules in
    let i : c.args.at ≡ length n.left.0 + suc (c.args.at - c.len-before.result - 1) = omega (arith, len) in
    let here : drop (c.args.at - c.len-before.result - 1) n.right.0 ≡ c.nth-2.result.now ∷ drop (c.args.at - c.len-before.result - 1 + 1) n.right.0 = search rules in
    rw f.entries (nth_right n.left.0 n.pair.value n.right.0 (c.args.at - c.len-before.result - 1) c.args.at c.nth-2.result.now i here)
