use Rattle.std.proofs.Common.{rules, ◌≡◌, Less, Equal, Greater}
use Rattle.pks_pmap.proofs.Order.{get_left, get_middle, get_right}
use Rattle.pks_pmap.proofs.AtFork.{at_fork}
use Rattle.pks_pmap.proofs.tree.BalancedTree.+get.Goals as goal

pub returns-in-Less : goal.returns-in-Less
returns-in-Less g t c =
    let f = at_fork {R = g.K.Ord.cmp} c.self.view_is c.self.invariant c.in-Fork.is in
    let n = c.in-Fork.node.value in
    let o : g.K.Ord.cmp c.args.key.now n.pair.value.0 ≡ Less = search rules in
    rw (f.entries, get_left g.K.Ord.cmp g.met.K.Ord.total c.args.key.now n.left.0 n.pair.value n.right.0 f.node.ascending o) (search rules)

pub returns-in-Equal : goal.returns-in-Equal
returns-in-Equal g t c =
    let f = at_fork {R = g.K.Ord.cmp} c.self.view_is c.self.invariant c.in-Fork.is in
    let n = c.in-Fork.node.value in
    let o : g.K.Ord.cmp c.args.key.now n.pair.value.0 ≡ Equal = search rules in
    rw (f.entries, get_middle g.K.Ord.cmp g.met.K.Ord.total c.args.key.now n.left.0 n.pair.value n.right.0 f.node.ascending o) (search rules)

pub returns-in-Greater : goal.returns-in-Greater
returns-in-Greater g t c =
    let f = at_fork {R = g.K.Ord.cmp} c.self.view_is c.self.invariant c.in-Fork.is in
    let n = c.in-Fork.node.value in
    let o : g.K.Ord.cmp c.args.key.now n.pair.value.0 ≡ Greater = search rules in
    rw (f.entries, get_right g.K.Ord.cmp g.met.K.Ord.total c.args.key.now n.left.0 n.pair.value n.right.0 f.node.ascending o) (search rules)
