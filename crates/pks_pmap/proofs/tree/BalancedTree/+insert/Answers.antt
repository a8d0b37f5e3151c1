use Rattle.std.proofs.Common.{rules, ◌≡◌, ◌∷◌, ◌++◌, ◌+◌, ◌≤◌, max, arith, subst, Less, Equal, Greater, IfOk}
use Rattle.std.proofs.lemmas.Result.{IfOk-weaker}
use Rattle.pks_pmap.specs.Sides.{IsInsertion, IsBalancing}
use Rattle.pks_pmap.proofs.AtFork.{at_fork}
use Rattle.pks_pmap.proofs.Below.{insert_left_ascending, insert_middle_ascending, insert_right_ascending, insert_below_left, insert_here, insert_below_right}
use Rattle.pks_pmap.proofs.tree.BalancedTree.+insert.Goals as goal

pub balance_with_left-requires-clause-ascending : goal.balance_with_left-requires-clause-ascending
balance_with_left-requires-clause-ascending g t c =
    let f = at_fork {R = g.K.Ord.cmp} c.self.view_is c.self.invariant c.in-Fork.is in
    let n = c.in-Fork.node.value in
    let q : g.K.Ord.cmp c.args.pair.value.0 n.pair.value.0 ≡ Less = search rules in
    let i : IsInsertion g.K.Ord.cmp c.args.pair.value n.left c.args.steps.now.made c.insert.new.steps.made c.in_ok-left-in-Less.left = search rules in
    let e : c.deref-in-Less-2.result.now ≡ n = c.deref-in-Less-2.ensures in
    rw (e, i.entries) (insert_left_ascending g.K.Ord.cmp g.met.K.Ord.total f c.args.pair.value q)

pub returns-in_ok-left-in-Less-clause-inserted : goal.returns-in_ok-left-in-Less-clause-inserted
returns-in_ok-left-in-Less-clause-inserted g t c =
    let f = at_fork {R = g.K.Ord.cmp} c.self.view_is c.self.invariant c.in-Fork.is in
    let n = c.in-Fork.node.value in
    let q : g.K.Ord.cmp c.args.pair.value.0 n.pair.value.0 ≡ Less = search rules in
    let i : IsInsertion g.K.Ord.cmp c.args.pair.value n.left c.args.steps.now.made c.insert.new.steps.made c.in_ok-left-in-Less.left = search rules in
    let e : c.deref-in-Less-2.result.now ≡ n = c.deref-in-Less-2.ensures in
    let b : IfOk c.balance_with_left.result (IsBalancing c.in_ok-left-in-Less.left n.pair.value n.right c.insert.new.steps.made c.balance_with_left.new.steps.made) = subst (λ m. IfOk c.balance_with_left.result (IsBalancing c.in_ok-left-in-Less.left m.pair.value m.right c.insert.new.steps.made c.balance_with_left.new.steps.made)) e c.balance_with_left.ensures.balancing in
    IfOk-weaker c.balance_with_left.result _ _ (λ u w. insert_below_left g.K.Ord.cmp g.met.K.Ord.total f c.args.pair.value c.args.steps.now.made c.insert.new.steps.made c.balance_with_left.new.steps.made c.in_ok-left-in-Less.left u q i w) b

pub balance_with_right-requires-clause-ascending : goal.balance_with_right-requires-clause-ascending
balance_with_right-requires-clause-ascending g t c =
    let f = at_fork {R = g.K.Ord.cmp} c.self.view_is c.self.invariant c.in-Fork.is in
    let n = c.in-Fork.node.value in
    let q : g.K.Ord.cmp c.args.pair.value.0 n.pair.value.0 ≡ Greater = search rules in
    let i : IsInsertion g.K.Ord.cmp c.args.pair.value n.right c.args.steps.now.made c.insert-in-Greater.new.steps.made c.in_ok-right-in-Greater.right = search rules in
    let e : c.deref-in-Greater-2.result.now ≡ n = c.deref-in-Greater-2.ensures in
    rw (e, i.entries) (insert_right_ascending g.K.Ord.cmp g.met.K.Ord.total f c.args.pair.value q)

pub returns-in_ok-right-in-Greater-clause-inserted : goal.returns-in_ok-right-in-Greater-clause-inserted
returns-in_ok-right-in-Greater-clause-inserted g t c =
    let f = at_fork {R = g.K.Ord.cmp} c.self.view_is c.self.invariant c.in-Fork.is in
    let n = c.in-Fork.node.value in
    let q : g.K.Ord.cmp c.args.pair.value.0 n.pair.value.0 ≡ Greater = search rules in
    let i : IsInsertion g.K.Ord.cmp c.args.pair.value n.right c.args.steps.now.made c.insert-in-Greater.new.steps.made c.in_ok-right-in-Greater.right = search rules in
    let e : c.deref-in-Greater-2.result.now ≡ n = c.deref-in-Greater-2.ensures in
    let b : IfOk c.balance_with_right.result (IsBalancing n.left n.pair.value c.in_ok-right-in-Greater.right c.insert-in-Greater.new.steps.made c.balance_with_right.new.steps.made) = subst (λ m. IfOk c.balance_with_right.result (IsBalancing m.left m.pair.value c.in_ok-right-in-Greater.right c.insert-in-Greater.new.steps.made c.balance_with_right.new.steps.made)) e c.balance_with_right.ensures.balancing in
    IfOk-weaker c.balance_with_right.result _ _ (λ u w. insert_below_right g.K.Ord.cmp g.met.K.Ord.total f c.args.pair.value c.args.steps.now.made c.insert-in-Greater.new.steps.made c.balance_with_right.new.steps.made c.in_ok-right-in-Greater.right u q i w) b

pub make_with_pair-requires-clause-ascending : goal.make_with_pair-requires-clause-ascending
make_with_pair-requires-clause-ascending g t c =
    let f = at_fork {R = g.K.Ord.cmp} c.self.view_is c.self.invariant c.in-Fork.is in
    let n = c.in-Fork.node.value in
    let q : g.K.Ord.cmp c.args.pair.value.0 n.pair.value.0 ≡ Equal = search rules in
    let e : c.deref-in-Equal.result.now ≡ n = c.deref-in-Equal.ensures in
    rw e (insert_middle_ascending g.K.Ord.cmp g.met.K.Ord.total f c.args.pair.value q)

pub returns-in-Equal-clause-inserted : goal.returns-in-Equal-clause-inserted
returns-in-Equal-clause-inserted g t c =
    let f = at_fork {R = g.K.Ord.cmp} c.self.view_is c.self.invariant c.in-Fork.is in
    let n = c.in-Fork.node.value in
    let q : g.K.Ord.cmp c.args.pair.value.0 n.pair.value.0 ≡ Equal = search rules in
    let e : c.deref-in-Equal.result.now ≡ n = c.deref-in-Equal.ensures in
    let one : c.make_with_pair.new.steps.made ≤ c.args.steps.now.made + 1 = grind (arith, c.make_with_pair.ensures.at_most) in
    let b : IfOk c.make_with_pair.result (λ u. u ≡ (n.left.0 ++ c.args.pair.value ∷ n.right.0, max n.left.1 n.right.1 + 1)) = subst (λ m. IfOk c.make_with_pair.result (λ u. u ≡ (m.left.0 ++ c.args.pair.value ∷ m.right.0, max m.left.1 m.right.1 + 1))) e c.make_with_pair.ensures.made in
    IfOk-weaker c.make_with_pair.result _ _ (λ u w. insert_here g.K.Ord.cmp g.met.K.Ord.total f c.args.pair.value c.args.steps.now.made c.make_with_pair.new.steps.made u q w one) b
