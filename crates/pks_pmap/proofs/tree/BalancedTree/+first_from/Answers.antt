use Rattle.std.proofs.Common.{rules, ◌≡◌, Less, Equal, Greater, Some, None}
use Rattle.pks_pmap.specs.Entries.{first_from}
use Rattle.pks_pmap.proofs.Order.{first_from_left, first_from_middle, first_from_right}
use Rattle.pks_pmap.proofs.AtFork.{at_fork}
use Rattle.pks_pmap.proofs.tree.BalancedTree.+first_from.Goals as goal

pub returns-in-Some : goal.returns-in-Some
returns-in-Some g t c =
    let f = at_fork {R = g.K.Ord.cmp} c.self.view_is c.self.invariant c.in-Fork.is in
    let n = c.in-Fork.node.value in
    let o : g.K.Ord.cmp c.args.key.now n.pair.value.0 ≡ Less = search rules in
    let below : first_from g.K.Ord.cmp c.args.key.now n.left.0 ≡ Some c.in-Some.first.now = search rules in
    rw (f.entries, first_from_left g.K.Ord.cmp g.met.K.Ord.total c.args.key.now n.left.0 n.pair.value n.right.0 o, below) (search rules)

pub returns-in-None : goal.returns-in-None
returns-in-None g t c =
    let f = at_fork {R = g.K.Ord.cmp} c.self.view_is c.self.invariant c.in-Fork.is in
    let n = c.in-Fork.node.value in
    let o : g.K.Ord.cmp c.args.key.now n.pair.value.0 ≡ Less = search rules in
    let below : first_from g.K.Ord.cmp c.args.key.now n.left.0 ≡ None = search rules in
    let here : c.deref-in-None-2.result.now ≡ n.pair.value = search rules in
    rw (f.entries, first_from_left g.K.Ord.cmp g.met.K.Ord.total c.args.key.now n.left.0 n.pair.value n.right.0 o, below, here) (search rules)

pub returns-in-Equal : goal.returns-in-Equal
returns-in-Equal g t c =
    let f = at_fork {R = g.K.Ord.cmp} c.self.view_is c.self.invariant c.in-Fork.is in
    let n = c.in-Fork.node.value in
    let o : g.K.Ord.cmp c.args.key.now n.pair.value.0 ≡ Equal = search rules in
    let here : c.deref-in-Equal-2.result.now ≡ n.pair.value = search rules in
    rw (f.entries, first_from_middle g.K.Ord.cmp g.met.K.Ord.total c.args.key.now n.left.0 n.pair.value n.right.0 f.node.ascending o, here) (search rules)

pub returns-in-Greater : goal.returns-in-Greater
returns-in-Greater g t c =
    let f = at_fork {R = g.K.Ord.cmp} c.self.view_is c.self.invariant c.in-Fork.is in
    let n = c.in-Fork.node.value in
    let o : g.K.Ord.cmp c.args.key.now n.pair.value.0 ≡ Greater = search rules in
    rw (f.entries, first_from_right g.K.Ord.cmp g.met.K.Ord.total c.args.key.now n.left.0 n.pair.value n.right.0 f.node.ascending o) (search rules)
