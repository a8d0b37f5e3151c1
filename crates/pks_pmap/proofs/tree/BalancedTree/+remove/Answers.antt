use Rattle.std.proofs.Common.{rules, ◌≡◌, subst, Less, Equal, Greater, IfOk}
use Rattle.std.proofs.lemmas.Result.{IfOk-weaker}
use Rattle.pks_pmap.specs.Sides.{IsRemoval, IsBalancing, IsGluing}
use Rattle.pks_pmap.proofs.AtFork.{at_fork}
use Rattle.pks_pmap.proofs.Below.{remove_left_ascending, remove_middle_ascending, remove_right_ascending, remove_below_left, remove_here, remove_below_right}
use Rattle.pks_pmap.proofs.tree.BalancedTree.+remove.Goals as goal

pub balance_with_left-requires-clause-ascending : goal.balance_with_left-requires-clause-ascending
balance_with_left-requires-clause-ascending g t c =
    let f = at_fork {R = g.K.Ord.cmp} c.self.view_is c.self.invariant c.in-Fork.is in
    let n = c.in-Fork.node.value in
    let q : g.K.Ord.cmp c.args.key.now n.pair.value.0 ≡ Less = search rules in
    let i : IsRemoval g.K.Ord.cmp c.args.key.now n.left c.in_ok-left-in-Less.left = search rules in
    let e : c.deref-in-Less-2.result.now ≡ n = c.deref-in-Less-2.ensures in
    rw (e, i.entries) (remove_left_ascending g.K.Ord.cmp g.met.K.Ord.total f c.args.key.now q)

pub returns-in_ok-left-in-Less-clause-removed : goal.returns-in_ok-left-in-Less-clause-removed
returns-in_ok-left-in-Less-clause-removed g t c =
    let f = at_fork {R = g.K.Ord.cmp} c.self.view_is c.self.invariant c.in-Fork.is in
    let n = c.in-Fork.node.value in
    let q : g.K.Ord.cmp c.args.key.now n.pair.value.0 ≡ Less = search rules in
    let i : IsRemoval g.K.Ord.cmp c.args.key.now n.left c.in_ok-left-in-Less.left = search rules in
    let e : c.deref-in-Less-2.result.now ≡ n = c.deref-in-Less-2.ensures in
    let b : IfOk c.balance_with_left.result (IsBalancing c.in_ok-left-in-Less.left n.pair.value n.right c.remove.new.steps.made c.balance_with_left.new.steps.made) = subst (λ m. IfOk c.balance_with_left.result (IsBalancing c.in_ok-left-in-Less.left m.pair.value m.right c.remove.new.steps.made c.balance_with_left.new.steps.made)) e c.balance_with_left.ensures.balancing in
    IfOk-weaker c.balance_with_left.result _ _ (λ u w. remove_below_left g.K.Ord.cmp g.met.K.Ord.total f c.args.key.now c.remove.new.steps.made c.balance_with_left.new.steps.made c.in_ok-left-in-Less.left u q i w) b

pub balance_with_right-requires-clause-ascending : goal.balance_with_right-requires-clause-ascending
balance_with_right-requires-clause-ascending g t c =
    let f = at_fork {R = g.K.Ord.cmp} c.self.view_is c.self.invariant c.in-Fork.is in
    let n = c.in-Fork.node.value in
    let q : g.K.Ord.cmp c.args.key.now n.pair.value.0 ≡ Greater = search rules in
    let i : IsRemoval g.K.Ord.cmp c.args.key.now n.right c.in_ok-right-in-Greater.right = search rules in
    let e : c.deref-in-Greater-2.result.now ≡ n = c.deref-in-Greater-2.ensures in
    rw (e, i.entries) (remove_right_ascending g.K.Ord.cmp g.met.K.Ord.total f c.args.key.now q)

pub returns-in_ok-right-in-Greater-clause-removed : goal.returns-in_ok-right-in-Greater-clause-removed
returns-in_ok-right-in-Greater-clause-removed g t c =
    let f = at_fork {R = g.K.Ord.cmp} c.self.view_is c.self.invariant c.in-Fork.is in
    let n = c.in-Fork.node.value in
    let q : g.K.Ord.cmp c.args.key.now n.pair.value.0 ≡ Greater = search rules in
    let i : IsRemoval g.K.Ord.cmp c.args.key.now n.right c.in_ok-right-in-Greater.right = search rules in
    let e : c.deref-in-Greater-2.result.now ≡ n = c.deref-in-Greater-2.ensures in
    let b : IfOk c.balance_with_right.result (IsBalancing n.left n.pair.value c.in_ok-right-in-Greater.right c.remove-in-Greater.new.steps.made c.balance_with_right.new.steps.made) = subst (λ m. IfOk c.balance_with_right.result (IsBalancing m.left m.pair.value c.in_ok-right-in-Greater.right c.remove-in-Greater.new.steps.made c.balance_with_right.new.steps.made)) e c.balance_with_right.ensures.balancing in
    IfOk-weaker c.balance_with_right.result _ _ (λ u w. remove_below_right g.K.Ord.cmp g.met.K.Ord.total f c.args.key.now c.remove-in-Greater.new.steps.made c.balance_with_right.new.steps.made c.in_ok-right-in-Greater.right u q i w) b

pub glue-requires : goal.glue-requires
glue-requires g t c =
    let f = at_fork {R = g.K.Ord.cmp} c.self.view_is c.self.invariant c.in-Fork.is in
    let n = c.in-Fork.node.value in
    let q : g.K.Ord.cmp c.args.key.now n.pair.value.0 ≡ Equal = search rules in
    let l : c.deref-in-Equal.result.now ≡ n = c.deref-in-Equal.ensures in
    let r : c.deref-in-Equal-2.result.now ≡ n = c.deref-in-Equal-2.ensures in
    rw (l, r) (remove_middle_ascending g.K.Ord.cmp g.met.K.Ord.total f c.args.key.now q)

pub returns-in-Equal-clause-removed : goal.returns-in-Equal-clause-removed
returns-in-Equal-clause-removed g t c =
    let f = at_fork {R = g.K.Ord.cmp} c.self.view_is c.self.invariant c.in-Fork.is in
    let n = c.in-Fork.node.value in
    let q : g.K.Ord.cmp c.args.key.now n.pair.value.0 ≡ Equal = search rules in
    let b : IfOk c.glue.result (IsGluing n.left n.right) =
    subst (λ m. IfOk c.glue.result (IsGluing m.left n.right)) c.deref-in-Equal.ensures (subst (λ m. IfOk c.glue.result (IsGluing c.deref-in-Equal.result.now.left m.right)) c.deref-in-Equal-2.ensures c.glue.ensures.gluing) in
    IfOk-weaker c.glue.result _ _ (λ u w. remove_here g.K.Ord.cmp g.met.K.Ord.total f c.args.key.now u q w) b
